use Rattle.lent_passes.specs.Counted.{next_counts, limit_counts}
use Rattle.lent_passes.proofs.absorbed_of.Goals as goal

pub returns-in-Ok : goal.returns-in-Ok
returns-in-Ok c = (next_counts c.in-Ok.is).1

pub returns-in-Err : goal.returns-in-Err
returns-in-Err c = (limit_counts c.in-Err.is).1
