-- Two writes. Assumes nothing.
use Rattle.work.specs.RowPut.{two_put}
use Rattle.work.proofs.put_root.Goals as goal

pub returns : goal.returns
returns c = two_put c.requires _ c.write.ensures c.write-2.ensures
