-- Three reads. Assumes nothing.
use Rattle.items.specs.View.{tagged_read}
use Rattle.items.proofs.item_at.Goals as goal

pub returns : goal.returns
returns c = tagged_read _ _ _ _ _ _ _ c.read-tag.ensures c.read-axis.ensures c.read-angle.ensures
