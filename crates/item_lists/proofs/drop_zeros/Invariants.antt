-- The loop's invariant: of i items those that stay are there. Assumes nothing.
use Prim.Native.Nat.{◌≤◌}
use Rattle.item_lists.specs.Drop.{DroppedTo}
use Rattle.item_lists.proofs.drop_zeros.Given as goal

abbrev pub invariant-loop-i : goal.invariant-loop-i
invariant-loop-i l = (l.i ≤ l.n) × DroppedTo l.initial.numbers l.u l.c l.d l.i l.k l.numbers
