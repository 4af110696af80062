-- A place counts behind the segment's start. Assumes nothing.
use borrow.Author.Tests.{not-true, not-false}
use Rattle.merging.specs.Taking.{last_off, last_named, last_none}
use Rattle.merging.proofs.last_of.Goals as goal

pub returns-then-not-rules : goal.returns-then-not-rules
returns-then-not-rules c = last_off _ _ _ _ (not-true _ c.if-not-rules.true)

pub returns-then-st-v : goal.returns-then-st-v
returns-then-st-v c = last_named _ _ _ _ (not-false _ c.if-not-rules.false) c.read-v.ensures c.if-st-v.true

pub returns-else-st-v : goal.returns-else-st-v
returns-else-st-v c = last_none _ _ _ _ (not-false _ c.if-not-rules.false) c.read-v.ensures c.if-st-v.false
