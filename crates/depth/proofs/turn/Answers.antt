-- A barrier ends the segment; a rotation gets its level. Assumes nothing.
use Rattle.items.specs.View.{rotation_tag, barrier_tag}
use Rattle.depth.specs.Turns.{turn_barrier, turn_rotation}
use Rattle.depth.proofs.turn.Goals as goal

pub returns-then-not-is_rotation : goal.returns-then-not-is_rotation
returns-then-not-is_rotation c = turn_barrier c.requires c.item_at-item.ensures (barrier_tag _ c.is_rotation.ensures c.if-not-is_rotation.true)

pub returns : goal.returns
returns c = turn_rotation c.requires c.item_at-item.ensures (rotation_tag _ c.is_rotation.ensures c.if-not-is_rotation.false) c.rotation-reached.ensures
