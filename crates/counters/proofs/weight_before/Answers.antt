-- The loop's invariant: n is the weight of the first i operations. Assumes nothing.
use native.Mathlib.Omega.{arith}
use Rattle.counters.specs.SourceWeight.{source_item, source_begin, source_more, source_end}
use Rattle.counters.proofs.weight_before.Goals as goal

pub loop-i-init : goal.loop-i-init
loop-i-init c = (omega arith, omega arith, source_begin _ _ _ _ _ _)

pub operation_weight-n-requires : goal.operation_weight-n-requires
operation_weight-n-requires c = source_item c.requires _ (omega arith)

pub loop-i-preserved : goal.loop-i-preserved
loop-i-preserved c =
    let p = c.requires in
    (omega arith, omega arith, source_more p.few (omega arith) c.operation_weight-n.ensures c.loop-i.invariant.2)

pub returns : goal.returns
returns c = source_end (omega arith) c.loop-i.invariant.2
