-- The loop's invariant: k is the T-count of the rotations before i. Assumes nothing.
use native.Mathlib.Omega.{arith}
use mathlib.Core.Path.{ap}
use Prim.Native.Nat.{ℕ, ◌%◌}
use Rattle.model.specs.Items.{t_count_rots}
use Rattle.items.specs.View.{rot_said}
use Rattle.item_lists.specs.Count.{sum_none, sum_more, sum_all}
use Rattle.item_lists.proofs.t_count_rots.Goals as goal

pub loop-i-init : goal.loop-i-init
loop-i-init c = (omega arith, omega arith, sum_none _ _ _ _ _ _ _)

pub loop-i-preserved : goal.loop-i-preserved
unfolding rot_said
loop-i-preserved c = (omega arith, omega arith, sum_more _ _ _ _ _ _ _ _ _ _ (omega arith) (ap (λ (y : ℕ). y % 2) c.angle_at.ensures) c.loop-i.invariant.2)

pub returns : goal.returns
unfolding t_count_rots
returns c = sum_all _ _ _ _ _ _ _ _ _ (omega arith) c.loop-i.invariant.2
