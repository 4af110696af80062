-- The phase is read first; the loop's invariant: the first j numbers of the product stand in out. Assumes nothing.
use mathlib.Core.Path.{◌≡◌}
use Prim.Native.Nat.{◌-◌}
use lib.ListN.{length}
use Rattle.pauli.specs.Word.{xor_words}
use Rattle.product.proofs.Laying.{Laid}
use Rattle.product.proofs.product.Given as goal

abbrev pub invariant-loop-j : goal.invariant-loop-j
invariant-loop-j l = (l.j-end ≡ length l.p) × Laid l.initial.out l.out 0 (length l.p) (xor_words l.p l.q) l.j

abbrev pub decreases-loop-j : goal.decreases-loop-j
decreases-loop-j l = l.j-end - l.j
