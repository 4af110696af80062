-- A rotation's angle counts, a barrier's does not. Assumes nothing.
use mathlib.Core.Path.{◌∙◌, ap}
use Rattle.items.specs.View.{rotation_tag, barrier_tag}
use Rattle.item_lists.specs.Count.{odd_of, odd_rotation, odd_barrier}
use Rattle.item_lists.proofs.odd_at.Goals as goal

pub returns-then-is_rotation : goal.returns-then-is_rotation
returns-then-is_rotation c =
    let x = c.item_at-x in
    odd_rotation x.result (rotation_tag _ c.is_rotation.ensures c.if-is_rotation.true) ∙ ap odd_of x.ensures

pub returns : goal.returns
returns c =
    let x = c.item_at-x in
    odd_barrier x.result (barrier_tag _ c.is_rotation.ensures c.if-is_rotation.false) ∙ ap odd_of x.ensures
