-- The loop's invariant: the first i rows are laid. Assumes nothing.
use native.Mathlib.Omega.{arith}
use Rattle.results.specs.Rows.{row_none, row_needs, row_more, row_all}
use Rattle.results.proofs.write_rows.Goals as goal

pub loop-i-init : goal.loop-i-init
loop-i-init c = (omega arith, omega arith, row_none _ _ _ _)

pub write_row-requires : goal.write_row-requires
write_row-requires c = row_needs _ _ _ c.requires c.loop-i.invariant.2 (omega arith)

pub loop-i-preserved : goal.loop-i-preserved
loop-i-preserved c =
    let p = c.requires in
    (omega arith, omega arith, row_more _ _ _ p c.loop-i.invariant.2 (omega arith) c.write_row.ensures)

pub returns : goal.returns
returns c = row_all _ _ _ (omega arith) c.loop-i.invariant.2
