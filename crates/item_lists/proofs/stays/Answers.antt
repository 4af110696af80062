-- A barrier, or a rotation whose angle is not 0. Assumes nothing.
use mathlib.Core.Path.{◌∙◌, ap}
use mathlib.Core.Bool.{not}
use Rattle.item_lists.specs.Keep.{stays_barrier, stays_rotation}
use Rattle.item_lists.proofs.stays.Goals as goal

pub returns-then-not-is_rotation : goal.returns-then-not-is_rotation
returns-then-not-is_rotation c = ap not c.if-not-is_rotation.true ∙ stays_barrier _ c.is_rotation.ensures c.if-not-is_rotation.true

pub returns-else-not-is_rotation : goal.returns-else-not-is_rotation
returns-else-not-is_rotation c = stays_rotation _ c.is_rotation.ensures c.if-not-is_rotation.false
