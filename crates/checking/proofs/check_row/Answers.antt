-- The test is the definition's. Assumes nothing.
use mathlib.Core.Path.{sym}
use Rattle.model.specs.Checking.{bad_row, check_row}
use Rattle.theory.specs.Cases.{if_true, if_false}
use native.Mathlib.Omega.{arith}
use Rattle.checking.proofs.check_row.Goals as goal

pub overflow_cast-r : goal.overflow_cast-r
overflow_cast-r c = let f = c.shared_slice_known-1.given 0 in omega arith

pub overflow_cast-r-2 : goal.overflow_cast-r-2
overflow_cast-r-2 c = let f = c.shared_slice_known-2-1.given 1 in omega arith

pub returns-then-r-i : goal.returns-then-r-i
unfolding check_row bad_row
returns-then-r-i c = sym (if_true _ _ (rw (sym c.bad_reference.ensures) c.if-r-i.true))

pub returns : goal.returns
unfolding check_row bad_row
returns c = sym (if_false _ _ (rw (sym c.bad_reference.ensures) c.if-r-i.false))
