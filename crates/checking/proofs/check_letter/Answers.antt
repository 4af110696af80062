-- The model's two tests, one after the other. Assumes nothing.
use mathlib.Core.Path.{sym, ◌∙◌}
use borrow.Author.Tests.{lt-ltb, le-ltb, le-leb, lt-leb}
use Rattle.model.specs.Checking.{check_node_of_kind}
use Rattle.theory.specs.Cases.{if_true, if_false}
use native.Mathlib.Omega.{arith}
use Rattle.checking.proofs.check_letter.Goals as goal

pub returns-then-r-gt3 : goal.returns-then-r-gt3
unfolding check_node_of_kind
returns-then-r-gt3 c = sym (if_true _ _ (lt-ltb _ _ c.if-r-gt3.true))

pub overflow_cast-r : goal.overflow_cast-r
overflow_cast-r c = let f = c.shared_slice_known-2-1.given 1 in omega arith

pub returns-then-qubits-r : goal.returns-then-qubits-r
unfolding check_node_of_kind
returns-then-qubits-r c = sym (if_false _ _ (le-ltb _ _ c.if-r-gt3.false) ∙ if_true _ _ (le-leb _ _ c.if-qubits-r.true))

pub returns : goal.returns
unfolding check_node_of_kind
returns c = sym (if_false _ _ (le-ltb _ _ c.if-r-gt3.false) ∙ if_false _ _ (lt-leb _ _ c.if-qubits-r.false))
