-- The union with the signature is written. Assumes nothing.
use Rattle.depth.specs.Lists.{joined}
use Rattle.depth.proofs.join.Goals as goal

pub returns : goal.returns
returns c = joined c.requires c.union.ensures c.write_wide.ensures
