-- 65,535 is printed as -1. Assumes nothing.
use mathlib.Core.Path.{sym, ◌∙◌}
use borrow.Author.Tests.{eq-eqb, ne_eqb}
use Rattle.theory.specs.Cases.{if_true, if_false}
use Rattle.listing_print.proofs.lines.outcome.Goals as goal

pub returns-then-v-eq-NO_OUTCOME : goal.returns-then-v-eq-NO_OUTCOME
returns-then-v-eq-NO_OUTCOME c = sym (if_true _ _ (eq-eqb _ _ c.if-v-eq-NO_OUTCOME.true))

pub returns : goal.returns
returns c = c.from.ensures ∙ sym (if_false _ _ (ne_eqb _ _ c.if-v-eq-NO_OUTCOME.false))
