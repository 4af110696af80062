-- The record of an operation, or of a frame row, is read. Assumes nothing.
use Rattle.packing.specs.Phases.{phase_operation, phase_row_lem}
use Rattle.packing.proofs.reference_phase.Goals as goal

pub returns-then-root-count : goal.returns-then-root-count
returns-then-root-count c = phase_operation _ _ _ _ _ c.if-root-count.true c.operation.ensures

pub returns : goal.returns
returns c = phase_row_lem _ _ _ _ _ c.if-root-count.false c.row.ensures
