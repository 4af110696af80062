-- The library's test for an element, in the model's words. Assumes nothing.
use Rattle.std.proofs.Common.{◌∙◌}
use Rattle.model.specs.Program.{minus_one}
use Rattle.listing_fields.specs.Record.{any_is}
use Rattle.listing_fields.proofs.record.has_minus.Goals as goal

pub returns : goal.returns
returns c = c.contains.ensures.value ∙ any_is minus_one c.args.r.now
