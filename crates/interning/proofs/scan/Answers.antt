-- The loop's invariant: none of the first id axes is w. Assumes nothing.
use Rattle.std.proofs.Common.{arith}
use Rattle.interning.specs.Find.{id_here, id_next, id_none, stored_here, stored_none}
use Rattle.interning.proofs.scan.Goals as goal

pub returns-then-same : goal.returns-then-same
returns-then-same c =
    stored_here _ _ _ _ (id_here _ _ _ _ _ c.loop-id.invariant.1 (omega arith) c.same.ensures c.if-same.true (c.axis.ensures _ (omega arith))) (omega arith)

pub loop-id-preserved : goal.loop-id-preserved
loop-id-preserved c = (
  omega arith,
  id_next _ _ _ _ _ c.loop-id.invariant.1 (omega arith) c.same.ensures c.if-same.false (c.axis.ensures _ (omega arith)),
)

pub returns : goal.returns
returns c = stored_none _ _ _ _ (id_none _ _ _ _ (omega arith))
