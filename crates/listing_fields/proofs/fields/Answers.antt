-- The loop's invariant: the first i fields stand in `to`, and with what is left of the line they give the whole. Assumes nothing.
use mathlib.Core.Path.{refl, ap}
use lib.ListN.{length-set, length-take, length-drop}
use native.Mathlib.Omega.{arith}
use Rattle.listing_fields.specs.Views.{value_of}
use Rattle.listing_fields.specs.Fields.{part_column, other_columns, fields_first, fields_bad, fields_more, fields_end, refused}
use Rattle.listing_fields.proofs.fields.Goals as goal

pub returns-then-line-ne0 : goal.returns-then-line-ne0
returns-then-line-ne0 c = part_column _ _ c.if-line-ne0.true

pub returns-then-line-to : goal.returns-then-line-to
returns-then-line-to c = other_columns _ _ c.if-line-to.true

pub loop-i-init : goal.loop-i-init
loop-i-init c = (omega arith, refl, refl, omega arith, fields_first _ _ _)

pub field-requires : goal.field-requires
field-requires c = simp (length-take, length-drop) (omega arith)

pub returns-in_err-v : goal.returns-in_err-v
returns-in_err-v c =
    refused _ _ c.from_residual.ensures.0 (fields_bad _ _ _ _ _ c.loop-i.invariant.3 (omega arith) c.loop-i.invariant.4 c.field.ensures
    (ap value_of c.in_err-v.was))

pub loop-i-preserved : goal.loop-i-preserved
loop-i-preserved c = (
  omega arith,
  refl,
  simp length-set c.loop-i.invariant.2,
  c.loop-i.invariant.3,
  fields_more _ _ _ _ _ c.loop-i.invariant.3 (omega arith) c.loop-i.invariant.4 _ (omega arith) c.field.ensures
      (ap value_of c.in_ok-v.was),
)

pub returns : goal.returns
returns c = fields_end _ _ _ _ _ (omega arith) (omega arith) (omega arith) c.loop-i.invariant.4
