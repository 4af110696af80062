-- Kind by kind; node 0 is the identity. Assumes nothing.
use mathlib.Core.Path.{◌≡◌, sym, ◌∙◌}
use Prim.Native.Nat.{ℕ, ◌≤◌, ◌<◌}
use Rattle.model.specs.Checking.{bad_product}
use Rattle.theory.specs.Cases.{if_true, if_false}
use Rattle.checking.specs.Nodes.{node_identity, node_first, node_letter, node_product, node_unknown}
use native.Mathlib.Omega.{arith}
use Rattle.checking.proofs.check_node.Goals as goal

above : (n : ℕ) → (n ≡ 0 → ⊥) → 0 < n
above n h = omega arith

second : (n : ℕ) → (n ≡ 0 → ⊥) → (n ≡ 1 → ⊥) → n ≤ 2 → n ≡ 2
second n h k l = omega arith

pub returns-then-r-eq0 : goal.returns-then-r-eq0
returns-then-r-eq0 c = sym (node_identity _ _ _ c.if-r-eq0.true)

pub returns-then-i-eq0 : goal.returns-then-i-eq0
returns-then-i-eq0 c = sym (node_first _ _ _ c.if-r-eq0.false c.if-i-eq0.true)

pub check_letter-requires : goal.check_letter-requires
check_letter-requires c = c.requires

pub returns-then-r-eq1 : goal.returns-then-r-eq1
returns-then-r-eq1 c = c.check_letter.ensures ∙ sym (node_letter _ _ _ (above _ c.if-i-eq0.false) c.if-r-eq1.true)

pub returns-then-r-gt2 : goal.returns-then-r-gt2
returns-then-r-gt2 c = sym (node_unknown _ _ _ (above _ c.if-i-eq0.false) c.if-r-gt2.true)

pub overflow_cast-r : goal.overflow_cast-r
overflow_cast-r c = let f = c.shared_slice_known-6-1.given 1 in omega arith

pub overflow_cast-r-2 : goal.overflow_cast-r-2
overflow_cast-r-2 c = let f = c.shared_slice_known-7-1.given 3 in omega arith

pub returns-then-r-i : goal.returns-then-r-i
unfolding bad_product
returns-then-r-i c =
    sym (node_product _ _ _ (above _ c.if-i-eq0.false) (second _ c.if-r-eq0.false c.if-r-eq1.false c.if-r-gt2.false)
    ∙ if_true _ _ c.if-r-i.true)

pub returns : goal.returns
unfolding bad_product
returns c =
    sym (node_product _ _ _ (above _ c.if-i-eq0.false) (second _ c.if-r-eq0.false c.if-r-eq1.false c.if-r-gt2.false)
    ∙ if_false _ _ c.if-r-i.false)
