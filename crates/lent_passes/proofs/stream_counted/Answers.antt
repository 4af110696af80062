use Rattle.lent_passes.specs.Counted.{counted}
use Rattle.lent_passes.proofs.stream_counted.Goals as goal

pub returns : goal.returns
returns c = counted c.requires c.stream-outcome.ensures c.merges_of-merges.ensures c.absorbed_of-absorbed.ensures
