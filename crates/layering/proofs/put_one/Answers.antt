-- Axis and angle are copied. Assumes nothing.
use Rattle.layering.specs.Segment.{one_out}
use Rattle.layering.proofs.put_one.Goals as goal

pub returns : goal.returns
returns c = one_out _ _ _ _ c.item_at-x.ensures c.put_rotation.ensures
