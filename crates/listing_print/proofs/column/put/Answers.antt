-- The part that is lent becomes the column. Assumes nothing.
use Rattle.model.specs.Listing.{columns}
use Rattle.listing_columns.specs.Columns.{column_length}
use Rattle.listing_print.specs.Printed.{printed_part}
use Rattle.listing_print.proofs.column.put.Goals as goal

pub returns : goal.returns
returns c =
    printed_part c.args.out.now c.args.at columns c.fill.new.d _ c.requires c.fill.ensures
    (column_length _)
