-- The loop's invariant: the parity of acc is that of the crossed bits so far. Assumes nothing.
use mathlib.Core.Path.{◌≡◌}
use Prim.Native.Nat.{◌≤◌, ◌-◌, ◌%◌}
use Rattle.bits.specs.Popcount.{popcount}
use Rattle.pauli.proofs.Crosses.{crosses_to}
use Rattle.pauli.proofs.anticommutes.Given as goal

abbrev pub invariant-loop-j : goal.invariant-loop-j
invariant-loop-j l = (l.j ≤ l.l) × (popcount l.acc % 2 ≡ crosses_to l.l l.p l.q l.j % 2)

abbrev pub decreases-loop-j : goal.decreases-loop-j
decreases-loop-j l = l.l - l.j
