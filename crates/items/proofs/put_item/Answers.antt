-- Three writes. Assumes nothing.
use Rattle.items.specs.Put.{three_put}
use Rattle.items.proofs.put_item.Goals as goal

pub returns : goal.returns
returns c = three_put c.requires _ c.write.ensures c.write-2.ensures c.write-3.ensures
