-- The root points to what was the first, and is the first. Assumes nothing.
use Rattle.roots.specs.LinkLaws.{front_add, in_front}
use Rattle.roots.proofs.link.Goals as goal

pub add_use-requires : goal.add_use-requires
add_use-requires c = front_add c.requires c.write.ensures c.write-2.ensures

pub returns : goal.returns
returns c = in_front c.requires c.write.ensures c.write-2.ensures c.read-next.ensures c.add_use.ensures
