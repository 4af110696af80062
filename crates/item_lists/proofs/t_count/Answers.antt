-- The loop's invariant: k is the T-count of the items before i. Assumes nothing.
use native.Mathlib.Omega.{arith}
use Rattle.model.specs.Items.{t_count}
use Rattle.item_lists.specs.Count.{sum_none, sum_more, sum_all, odd_of, odd_small}
use Rattle.item_lists.proofs.t_count.Goals as goal

pub loop-i-init : goal.loop-i-init
loop-i-init c = (omega arith, omega arith, sum_none _ _ _ _ _ _ _)

pub overflow_add-k : goal.overflow_add-k
overflow_add-k c = let z = odd_small _ c.odd_at-k.ensures in omega arith

pub loop-i-preserved : goal.loop-i-preserved
unfolding odd_of
loop-i-preserved c =
    let z = odd_small _ c.odd_at-k.ensures in
    (omega arith, omega arith, sum_more _ _ _ _ _ _ _ _ _ _ (omega arith) c.odd_at-k.ensures c.loop-i.invariant.2)

pub returns : goal.returns
unfolding t_count
returns c = sum_all _ _ _ _ _ _ _ _ _ (omega arith) c.loop-i.invariant.2
