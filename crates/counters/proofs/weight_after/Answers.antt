-- The loop's invariant: n is the weight of the first i items. Assumes nothing.
use native.Mathlib.Omega.{arith}
use Rattle.counters.specs.Weight.{weight_item, weigh_none, weigh_more, weigh_all}
use Rattle.counters.proofs.weight_after.Goals as goal

pub loop-i-init : goal.loop-i-init
loop-i-init c = (omega arith, weigh_none _ _ _ _ _ _)

pub item_weight-n-requires : goal.item_weight-n-requires
item_weight-n-requires c = weight_item c.requires _ (omega arith)

pub loop-i-preserved : goal.loop-i-preserved
loop-i-preserved c = (omega arith, weigh_more c.requires.few (omega arith) c.item_weight-n.ensures c.loop-i.invariant.1)

pub returns : goal.returns
returns c = weigh_all (omega arith) c.loop-i.invariant.1
