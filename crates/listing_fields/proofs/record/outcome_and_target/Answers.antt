-- As the model's test has it. Assumes nothing.
use Rattle.listing_fields.specs.Record.{outcome_refused, outcome_written}
use Rattle.listing_fields.proofs.record.outcome_and_target.Goals as goal

pub returns-then-fits-outcome : goal.returns-then-fits-outcome
returns-then-fits-outcome c = outcome_refused _ c.fits.ensures c.fits-2.ensures c.if-fits-outcome.true

pub returns : goal.returns
returns c =
    outcome_written _ c.fits.ensures c.fits-2.ensures c.if-fits-outcome.false c.requires c.in_record.ensures c.in_record-2.ensures
