-- The loop's invariant: the first j numbers of the product stand at o. Assumes nothing.
use mathlib.Core.Path.{◌≡◌}
use Prim.Native.Nat.{◌-◌, ◌*◌}
use Rattle.product.proofs.Laying.{product_word, Laid}
use Rattle.product.proofs.stored.product_word_in.Given as goal

abbrev pub invariant-loop-j : goal.invariant-loop-j
invariant-loop-j l = (l.j-end ≡ 2 * l.l) × Laid l.initial.words l.words l.o (2 * l.l) (product_word l.l l.initial.words l.p l.q) l.j

abbrev pub decreases-loop-j : goal.decreases-loop-j
decreases-loop-j l = l.j-end - l.j
