-- The loop's invariant: k is the T-count of the items before i. Assumes nothing.
use Prim.Native.Nat.{◌≤◌, ◌%◌}
use Rattle.model.specs.Items.{Item, angle_of}
use Rattle.items.specs.View.{item_said}
use Rattle.item_lists.specs.Count.{SumTo}
use Rattle.item_lists.proofs.t_count.Given as goal

abbrev pub invariant-loop-i : goal.invariant-loop-i
invariant-loop-i l = (l.k ≤ l.i) × (l.from ≤ l.i) × SumTo item_said (λ (x : Item). angle_of x % 2) l.numbers l.u l.b l.end l.from l.i l.k
