-- The loop's invariant: n is the count over the first j words of each plane. Assumes nothing.
use mathlib.Core.Path.{◌≡◌}
use Prim.Native.Nat.{◌*◌, ◌≤◌, ◌-◌}
use Rattle.bits.specs.Sum.{sum_to}
use Rattle.pauli.specs.Letter.{acts}
use Rattle.letter.proofs.weight.Given as goal

abbrev pub invariant-loop-j : goal.invariant-loop-j
invariant-loop-j l = (l.j ≤ l.l) × (l.n ≤ 64 * l.j) × (l.n ≡ sum_to (acts l.l l.w) (64 * l.j))

abbrev pub decreases-loop-j : goal.decreases-loop-j
decreases-loop-j l = l.l - l.j
