-- The model's answer to these counts and options. Assumes nothing.
use Rattle.werdutxa.specs.Calls.{check_number}
use Rattle.werdutxa.proofs.werdutxa_check.Goals as goal

pub returns : goal.returns
returns c = check_number _ _ _ _ c.counts.ensures c.options.ensures c.checking-answer.ensures c.number_of.ensures
