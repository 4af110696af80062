-- The entry is read. Assumes nothing.
use Rattle.mentions.specs.Relevant.{set_read}
use Rattle.mentions.proofs.is_set.Goals as goal

pub returns : goal.returns
returns c = set_read _ _ c.read.ensures
