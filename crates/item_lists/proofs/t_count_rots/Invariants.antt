-- The loop's invariant: k is the T-count of the rotations before i. Assumes nothing.
use Prim.Native.Nat.{◌≤◌, ◌%◌}
use Rattle.model.specs.Items.{Rot}
use Rattle.items.specs.View.{rot_said}
use Rattle.item_lists.specs.Count.{SumTo}
use Rattle.item_lists.proofs.t_count_rots.Given as goal

abbrev pub invariant-loop-i : goal.invariant-loop-i
invariant-loop-i l = (l.k ≤ l.i) × (l.from ≤ l.i) × SumTo rot_said (λ (x : Rot). x.angle % 2) l.numbers l.u l.b l.end l.from l.i l.k
