-- By cases. Assumes nothing.
use borrow.Author.Rules.{rules}
use Rattle.werdutxa.specs.Calls.{strategy_of}
use Rattle.werdutxa.proofs.strategy.Goals as goal

pub returns-then-litinski : goal.returns-then-litinski
unfolding strategy_of
returns-then-litinski c = search rules

pub returns : goal.returns
unfolding strategy_of
returns c = search rules
