-- A node's value from its children's: equal from equal ones, and as long as they are. Assumes nothing.
use Rattle.std.specs.Prelude.{◌≡◌, refl, ℕ, ◌*◌, ◌≤◌, length}
use Rattle.std.proofs.Common.{sym, ◌∙◌, arith}
use Rattle.pauli.specs.ProductLaws.{xor_words_length}
use Rattle.pauli.specs.LetterLaws.{identity_length, single_length}
use Rattle.model.specs.Program.{Node, identity, letter, product}
use Rattle.model.specs.Words.{Value, scaled, multiply}
use Rattle.model.specs.Value.{node_value}
use Rattle.theory.specs.ByNode.{OfChildren}
use Rattle.theory.specs.Checked.{LeafIn}

-- a node's value asks for its children's only
pub node_value_same : (l : ℕ) (f g : ℕ → Value) (node : Node) → OfChildren (λ i. f i ≡ g i) node → node_value l f node ≡ node_value l g node
unfolding node_value
node_value_same l f g identity h = refl
node_value_same l f g (letter q c) h = refl
node_value_same l f g (product a p b r) h = rw (h.0, h.1) refl

-- as long as its children's
pub node_value_length : (l q : ℕ) (f : ℕ → Value) (node : Node) → q ≤ 64 * l → LeafIn q node
    → OfChildren (λ i. length (f i).word ≡ 2 * l) node → length (node_value l f node).word ≡ 2 * l
unfolding node_value multiply scaled
node_value_length l q f identity w k h = identity_length l
node_value_length l q f (letter x c) w k h = single_length l x c (omega arith)
node_value_length l q f (product a p b r) w k h = xor_words_length (f a).word (f b).word (h.0 ∙ sym h.1) ∙ h.0
