-- A rotation's angle is tested, a barrier is none. Assumes nothing.
use mathlib.Core.Path.{◌∙◌, ap}
use Rattle.model.specs.Items.{is_even_rotation}
use Rattle.items.specs.declared.Tagged.{Tagged}
use Rattle.items.specs.View.{item_said, rotation_tag, barrier_tag}
use Rattle.item_lists.specs.Count.{even_rotation, even_barrier}
use Rattle.item_lists.proofs.even_at.Goals as goal

pub returns-then-is_rotation : goal.returns-then-is_rotation
returns-then-is_rotation c =
    let x = c.item_at-x in
    even_rotation x.result (rotation_tag _ c.is_rotation.ensures c.if-is_rotation.true)
    ∙ ap (λ (y : Tagged). is_even_rotation (item_said y)) x.ensures

pub returns-else-is_rotation : goal.returns-else-is_rotation
returns-else-is_rotation c =
    let x = c.item_at-x in
    c.if-is_rotation.false
    ∙ even_barrier x.result (barrier_tag _ c.is_rotation.ensures c.if-is_rotation.false)
    ∙ ap (λ (y : Tagged). is_even_rotation (item_said y)) x.ensures
