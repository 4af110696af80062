-- One entry is written. Assumes nothing.
use Rattle.roots.specs.UseLaws.{added}
use Rattle.roots.proofs.add_use.Goals as goal

pub returns : goal.returns
returns c = added c.requires c.read-uses.ensures c.write.ensures
