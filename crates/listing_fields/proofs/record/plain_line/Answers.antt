-- Its fields, and none of them -1. Assumes nothing.
use Rattle.model.specs.Listing.{plain_line}
use Rattle.listing_fields.specs.Fields.{refused, none_bound}
use Rattle.listing_fields.specs.Record.{plain_minus, plain_is}
use Rattle.listing_fields.proofs.record.plain_line.Goals as goal

pub returns-in_err-fields : goal.returns-in_err-fields
returns-in_err-fields c = refused _ _ c.from_residual.ensures.0 (none_bound plain_line c.in_err-fields.ensures)

pub returns-then-has_minus : goal.returns-then-has_minus
returns-then-has_minus c = plain_minus _ _ c.in_ok-fields.ensures _ c.has_minus.ensures c.if-has_minus.true

pub returns : goal.returns
returns c = plain_is _ _ c.in_ok-fields.ensures _ c.has_minus.ensures c.if-has_minus.false
