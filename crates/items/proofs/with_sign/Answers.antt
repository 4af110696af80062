-- The two cases of with_sign. Assumes nothing.
use mathlib.Core.Path.{sym}
use borrow.Author.Tests.{eq-eqb, ne_eqb}
use Rattle.model.specs.Items.{with_sign}
use Rattle.theory.specs.Cases.{if_true, if_false}
use Rattle.items.proofs.with_sign.Goals as goal

pub returns-then-sign-eq0 : goal.returns-then-sign-eq0
unfolding with_sign
returns-then-sign-eq0 c = sym (if_true _ _ (eq-eqb _ _ c.if-sign-eq0.true))

pub returns : goal.returns
unfolding with_sign
returns c = sym (if_false _ _ (ne_eqb _ _ c.if-sign-eq0.false))
