-- One write. Assumes nothing.
use Rattle.items.specs.Put.{angle_put}
use Rattle.items.proofs.set_angle.Goals as goal

pub returns : goal.returns
returns c = angle_put c.requires _ c.write.ensures
