-- Given, or kept. Assumes nothing.
use mathlib.Core.Path.{refl, ap}
use mathlib.Core.Bool.{not}
use Rattle.std.proofs.Common.{ne_eqb}
use Rattle.results.specs.Rows.{row_given, row_kept, not_given}
use Rattle.results.proofs.row_record.Goals as goal

pub returns-then-f-ne-NO_AXIS : goal.returns-then-f-ne-NO_AXIS
returns-then-f-ne-NO_AXIS c =
    row_given _ _ _ _ (rw c.if-changed.true (ap not (ne_eqb _ _ c.if-f-ne-NO_AXIS.true))) refl refl refl c.sign_field.ensures

pub returns : goal.returns
returns c = row_kept _ _ _ _ (not_given _ _ c.else-changed.either) refl refl refl refl
