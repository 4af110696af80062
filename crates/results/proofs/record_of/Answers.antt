-- A rotation, or a barrier. Assumes nothing.
use native.Mathlib.Omega.{arith}
use mathlib.Core.Path.{refl}
use Rattle.items.specs.View.{rotation_tag, barrier_tag}
use Rattle.results.specs.Record.{rotation_record, barrier_record_lem}
use Rattle.results.proofs.record_of.Goals as goal

pub returns-then-is_rotation : goal.returns-then-is_rotation
returns-then-is_rotation c =
    rotation_record _ _ _ (rotation_tag _ c.is_rotation.ensures c.if-is_rotation.true) refl refl refl refl refl refl

pub overflow_sub-x : goal.overflow_sub-x
overflow_sub-x c = omega (arith, barrier_tag _ c.is_rotation.ensures c.if-is_rotation.false)

pub operation-o-requires : goal.operation-o-requires
operation-o-requires c = (c.requires (barrier_tag _ c.is_rotation.ensures c.if-is_rotation.false)).long

pub barrier_record-requires : goal.barrier_record-requires
barrier_record-requires c =
    let b = c.requires (barrier_tag _ c.is_rotation.ensures c.if-is_rotation.false) in
    rw c.operation-o.ensures (b.kind, b.angle)

pub returns : goal.returns
returns c =
    barrier_record_lem _ _ _ _ (barrier_tag _ c.is_rotation.ensures c.if-is_rotation.false) c.operation-o.ensures
    c.barrier_record.ensures
