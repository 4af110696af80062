-- The loop's invariant: the first i items' records are laid. Assumes nothing.
use native.Mathlib.Omega.{arith}
use Rattle.results.specs.Operations.{laid_none, laid_needs, laid_more, laid_all}
use Rattle.results.proofs.write_operations.Goals as goal

pub loop-i-init : goal.loop-i-init
loop-i-init c = (omega arith, laid_none _ _ _ _)

pub write_operation-requires : goal.write_operation-requires
write_operation-requires c = laid_needs c.requires c.loop-i.invariant.1 (omega arith)

pub loop-i-preserved : goal.loop-i-preserved
loop-i-preserved c =
    let p = c.requires in
    (omega arith, laid_more p c.loop-i.invariant.1 (omega arith) c.write_operation.ensures)

pub returns : goal.returns
returns c = laid_all (omega arith) c.loop-i.invariant.1
