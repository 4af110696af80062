-- The loop's invariant: the first i records stand in `to`, and with what is left of the text they give the whole. Assumes nothing.
use mathlib.Core.Path.{◌≡◌}
use lib.ListN.{length}
use Rattle.listing_fields.specs.Views.{fits_of}
use Rattle.listing_read.specs.RecordLoop.{records_left}
use Rattle.listing_read.specs.Records.{records_in}
use Rattle.listing_read.proofs.lines.records.Given as goal

abbrev pub invariant-loop-i : goal.invariant-loop-i
invariant-loop-i l =
    (length l.to ≡ length l.initial.to)
    × (records_in l.n (fits_of l.operation) l.count l.text ≡ records_left l.n (fits_of l.operation) l.count l.to l.i l.rest)
