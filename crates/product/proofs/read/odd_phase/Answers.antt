-- Words that commute are told as such; else the whole phase is read. Assumes nothing.
use mathlib.Core.Path.{sym, ◌∙◌}
use Rattle.product.proofs.Phase.{tell_commute, tell_phase}
use Rattle.product.proofs.read.odd_phase.Goals as goal

pub returns-then-not-anticommutes : goal.returns-then-not-anticommutes
returns-then-not-anticommutes c = tell_commute _ _ _ (sym c.anticommutes.ensures ∙ c.if-not-anticommutes.true)

pub returns : goal.returns
returns c = tell_phase _ _ _ (sym c.anticommutes.ensures ∙ c.if-not-anticommutes.false) c.product_phase.ensures
