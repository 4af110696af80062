-- The item is made, then put behind the others. Assumes nothing.
use Rattle.start.specs.Build.{item_built}
use Rattle.start.proofs.build_item.Goals as goal

pub returns : goal.returns
returns c = item_built c.item_of-x.ensures c.keep_item.ensures
