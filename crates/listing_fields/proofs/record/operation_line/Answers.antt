-- Its fields; none of the first four is -1; then outcome and target. Assumes nothing.
use mathlib.Core.Path.{sym}
use lib.Seq.{length-take-le}
use Rattle.model.specs.Listing.{operation_line}
use native.Mathlib.Omega.{arith}
use Rattle.listing_fields.specs.Fields.{refused, none_bound}
use Rattle.listing_fields.specs.Record.{operation_minus, operation_rest}
use Rattle.listing_fields.proofs.record.operation_line.Goals as goal

pub returns-in_err-fields : goal.returns-in_err-fields
returns-in_err-fields c = refused _ _ c.from_residual.ensures.0 (none_bound operation_line c.in_err-fields.ensures)

pub slice_bounds-has_minus-end-2 : goal.slice_bounds-has_minus-end-2
slice_bounds-has_minus-end-2 c = sym (length-take-le 4 c.fields.new.to (omega arith))

pub returns-then-has_minus : goal.returns-then-has_minus
returns-then-has_minus c =
    let f = c.fields in
    operation_minus f.new.to _ c.in_ok-fields.ensures _ c.has_minus.ensures c.if-has_minus.true

pub returns : goal.returns
returns c =
    let f = c.fields in
    operation_rest f.new.to _ c.in_ok-fields.ensures _ _ c.has_minus.ensures c.if-has_minus.false
    c.outcome_and_target.ensures
