-- A leaf has no children; the second child's use is still there after the first is released. Assumes nothing.
use Rattle.packing.specs.ValueLaws.{second_pre}
use Rattle.packing.proofs.values.release_children.Goals as goal

pub release-requires : goal.release-requires
release-requires c = second_pre c.in-Product.is _ c.requires c.release-one.ensures
