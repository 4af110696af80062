-- The two cases of signField. Assumes nothing.
use mathlib.Core.Path.{sym}
use borrow.Author.Tests.{eq-eqb, ne_eqb}
use Rattle.theory.specs.Cases.{if_true, if_false}
use Rattle.results.proofs.sign_field.Goals as goal

pub returns-then-s-eq0 : goal.returns-then-s-eq0
returns-then-s-eq0 c = sym (if_true _ _ (eq-eqb _ _ c.if-s-eq0.true))

pub returns : goal.returns
returns c = sym (if_false _ _ (ne_eqb _ _ c.if-s-eq0.false))
