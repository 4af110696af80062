-- The loop's invariant: the buckets of the first j words of each plane. What is read out of a slice has 64 bits. Assumes nothing.
use mathlib.Core.Path.{◌≡◌}
use Prim.Native.Nat.{◌*◌, ◌≤◌, ◌-◌}
use Rattle.pauli.specs.Support.{signature_to}
use Rattle.support.proofs.support_signature.Given as goal

abbrev pub invariant-loop-j : goal.invariant-loop-j
invariant-loop-j l = (l.j ≤ l.l) × (l.sig ≡ signature_to l.l l.words (64 * l.j))

abbrev pub decreases-loop-j : goal.decreases-loop-j
decreases-loop-j l = l.l - l.j
