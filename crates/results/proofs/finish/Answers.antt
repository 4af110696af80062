-- Operations, rows, then both work stores. Assumes nothing.
use Rattle.results.specs.Finish.{finished}
use Rattle.results.proofs.finish.Goals as goal

pub returns : goal.returns
returns c = finished c.operation_results.ensures c.row_results.ensures c.axis_at.ensures c.clean.ensures
