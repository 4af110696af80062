-- The four fields of the record. Assumes nothing.
use mathlib.Core.Path.{ap}
use Rattle.model.specs.Listing.{line_of}
use Rattle.listing_print.specs.Printed.{printed_as, room_as}
use Rattle.listing_print.specs.Texts.{row_fields}
use Rattle.listing_print.proofs.lines.row.Goals as goal

pub line-requires : goal.line-requires
line-requires c =
    room_as _
    (ap line_of (row_fields _ c.requires.0 c.from.ensures c.from-2.ensures c.from-3.ensures c.from-4.ensures))
    c.requires.1

pub returns : goal.returns
returns c =
    printed_as
    (ap line_of (row_fields _ c.requires.0 c.from.ensures c.from-2.ensures c.from-3.ensures c.from-4.ensures))
    c.line.ensures
