-- The item is linked to those before, none is behind it, and it becomes the newest. Assumes nothing.
use Rattle.depth.specs.Lists.{put_last}
use Rattle.depth.proofs.put_last.Goals as goal

pub returns : goal.returns
returns c = put_last c.requires c.link.ensures c.write.ensures c.write-2.ensures
