-- The two cases: a rotation, or a barrier. Assumes nothing.
use mathlib.Core.Path.{refl, sym, ap, ◌∙◌}
use Rattle.model.specs.Packing.{SignedAxis}
use Rattle.records.specs.Kinds.{rotate_test}
use Rattle.start.specs.Item.{made_barrier, made_rotation}
use Rattle.start.proofs.item_of.Goals as goal

pub rotation_of-requires : goal.rotation_of-requires
rotation_of-requires c =
    rw c.sizes_of-z.ensures (
      rw (ap (λ (s : SignedAxis). s.axis) c.root_at-f.ensures) c.requires.stored,
      rw c.operation-o.ensures c.requires.angle,
    )

pub invariant_of-stored : goal.invariant_of-stored
invariant_of-stored c = record { stored = rw c.sizes_of-z.ensures c.requires.axes }

pub returns-then-eq : goal.returns-then-eq
returns-then-eq c =
    let o = c.operation-o in
    made_rotation c.args.shape _ _ _ _ _ c.root_at-f.result c.root_at-f.ensures _
    (rw o.ensures at (sym (rotate_test o.result.kind) ∙ sym c.if-eq.ensures))
    (rw (o.ensures, c.sizes_of-z.ensures) at c.rotation_of.ensures)

pub returns : goal.returns
returns c =
    let o = c.operation-o in
    made_barrier c.args.shape _ _ _ _ _ c.root_at-f.result c.root_at-f.ensures _
    (rw o.ensures at (sym (rotate_test o.result.kind) ∙ sym c.if-eq.ensures)) refl refl refl
