-- `last` is cleared, then the zero is written. Assumes nothing.
use Rattle.merging.specs.Steps.{zero_left}
use Rattle.merging.proofs.leave_zero.Goals as goal

pub returns : goal.returns
returns c = zero_left c.requires c.write.ensures c.put_rotation.ensures
