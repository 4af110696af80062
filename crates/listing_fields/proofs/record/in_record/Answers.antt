-- -1 in a record of the program is 65,535. Assumes nothing.
use mathlib.Core.Path.{sym}
use borrow.Author.Tests.{eq-eqb, ne_eqb}
use Rattle.theory.specs.Cases.{if_true, if_false}
use Rattle.listing_fields.proofs.record.in_record.Goals as goal

pub returns-then-v-eq-MINUS : goal.returns-then-v-eq-MINUS
returns-then-v-eq-MINUS c = sym (if_true _ _ (eq-eqb _ _ c.if-v-eq-MINUS.true))

pub returns-else-v-eq-MINUS : goal.returns-else-v-eq-MINUS
returns-else-v-eq-MINUS c = sym (if_false _ _ (ne_eqb _ _ c.if-v-eq-MINUS.false))
