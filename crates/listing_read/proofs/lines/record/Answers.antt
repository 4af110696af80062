-- A line that ends in a newline, as a record. Assumes nothing.
use Rattle.listing_read.specs.LineEnd.{no_line, line_read}
use Rattle.listing_read.specs.RecordLoop.{refused}
use Rattle.listing_read.proofs.lines.record.Goals as goal

pub returns-in_err-line : goal.returns-in_err-line
returns-in_err-line c = refused _ _ c.from_residual.ensures.0 (no_line _ _ _ c.in_err-line.ensures)

pub returns-in_err-line-2 : goal.returns-in_err-line-2
returns-in_err-line-2 c =
    refused _ _ c.from_residual-in_err-line-2.ensures.0 (line_read _ _ _ _ _ _ c.in_ok-line.ensures c.in_err-line-2.ensures)

pub returns : goal.returns
returns c = line_read _ _ _ _ _ _ c.in_ok-line.ensures c.in_ok-line-2.ensures
