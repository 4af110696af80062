-- Counters at 0, three of them set. Assumes nothing.
use Rattle.points.specs.Counts.{counters_set}
use Rattle.points.proofs.counters_of.Goals as goal

pub returns : goal.returns
returns c = counters_set c.args.run c.no_counters.ensures
