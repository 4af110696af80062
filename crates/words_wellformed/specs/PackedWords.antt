-- Every node's value is a word, so packing stores words only, each once. Assumes nothing.
use Rattle.std.specs.Prelude.{◌≡◌, ℕ, suc, ◌+◌, ◌*◌, ◌≤◌, ◌<◌, length}
use Rattle.std.proofs.Common.{◌∙◌, subst, le_trans, arith, length-append}
use mathlib.Core.List.{List, [], ◌∷◌, ◌++◌}
use Rattle.pauli.specs.Word.{width, IsWord}
use Rattle.pauli.specs.LetterLaws.{width_holds, single_word, xor_words_word, identity_word}
use Rattle.model.specs.Lists.{when◌then◌else◌}
use Rattle.model.specs.Program.{Node, identity, letter, product, PauliRef, Program}
use Rattle.model.specs.Words.{Value, as_value, scaled, multiply, tested}
use Rattle.model.specs.Value.{node_value, value_at, values_from, values}
use Rattle.model.specs.Roots.{roots}
use Rattle.model.specs.Packing.{Pack, use_node, use_children, take_slot, pack_root, pack_roots, pack_node, pack_from, roots_at, empty_pack, values_of}
use Rattle.model.specs.Packing.{packed}
use Rattle.theory.specs.Cases.{by_if}
use Rattle.theory.specs.Every.{Every, every_one, every_at}
use Rattle.theory.specs.ByNode.{ChildrenBefore, Ordered}
use Rattle.theory.specs.Checked.{LeafIn, Fine}
use Rattle.words_wellformed.specs.StoredWords.{StoredWords, none_stored, intern_stored}

-- ---- values

-- a value's word is one
abbrev pub ValueWord : ℕ → Value → Type 0
ValueWord l v = IsWord l v.word

node_value_word : (l q : ℕ) (before : List Value) (node : Node) → q ≤ 64 * l → LeafIn q node → ChildrenBefore (length before) node
    → Every (ValueWord l) before → ValueWord l (node_value l (value_at before) node)
unfolding node_value multiply scaled
node_value_word l q before identity fits leaf kids h = identity_word l
node_value_word l q before (letter x c) fits leaf kids h = single_word l x c (le_trans leaf.0 fits)
node_value_word l q before (product a u b v) fits leaf kids h =
    xor_words_word l _ _ (every_at (ValueWord l) before (as_value []) a h kids.0) (every_at (ValueWord l) before (as_value []) b h kids.1)

values_from_words : (l q : ℕ) (before : List Value) (nodes : List Node) → q ≤ 64 * l → Every (LeafIn q) nodes → Ordered (length before) nodes
    → Every (ValueWord l) before → Every (ValueWord l) (values_from l before nodes)
unfolding values_from
values_from_words l q before [] fits leaves order h = h
values_from_words l q before (node ∷ rest) fits leaves order h =
    let v = node_value l (value_at before) node in
    values_from_words l q (before ++ (v ∷ [])) rest fits leaves.1 (subst (λ (n : ℕ). Ordered n rest) (longer v) order.1)
    (every_one (ValueWord l) before v h (node_value_word l q before node fits leaves.0 order.0 h))
  where
    longer : (v : Value) → suc (length before) ≡ length (before ++ (v ∷ []))
    longer v = omega (arith, length-append before (v ∷ []))

values_from_length : (l : ℕ) (before : List Value) (nodes : List Node) → length (values_from l before nodes) ≡ length before + length nodes
unfolding values_from
values_from_length l before [] = omega arith
values_from_length l before (node ∷ rest) =
    let v = node_value l (value_at before) node in
    omega (arith, values_from_length l (before ++ (v ∷ [])) rest, length-append before (v ∷ []))

-- the values of a checked program's nodes are words
pub values_words : (p : Program) → Fine p → Every (ValueWord (width p.qubits)) (values_of p)
unfolding values
values_words p f = values_from_words (width p.qubits) p.qubits [] p.nodes (width_holds p.qubits) f.leaves f.ordered tt

-- there is one for each node
pub values_length : (p : Program) → length (values_of p) ≡ length p.nodes
unfolding values
values_length p = values_from_length (width p.qubits) [] p.nodes ∙ omega arith

-- ---- packing

module _ (l : ℕ) where
  abbrev Packed : Pack → Type 0
  Packed p = StoredWords l p.store.axes

  use_children_stored : (node : Node) (p : Pack) → Packed p → Packed (use_children node p)
  unfolding use_children use_node
  use_children_stored identity p s = s
  use_children_stored (letter q c) p s = s
  use_children_stored (product a u b v) p s = s

  take_slot_stored : (p : Pack) → Packed p → Packed (take_slot l p)
  unfolding take_slot tested
  take_slot_stored p s = by_if Packed _ _ _ s s

  pack_root_stored : (n : ℕ) (v : Value) (p : Pack) (r : PauliRef) → ValueWord l v → Packed p → Packed (pack_root l n v p r)
  unfolding pack_root use_node
  pack_root_stored n v p r h s = by_if Packed _ _ _ s (intern_stored l _ p.store v.word s h)

  pack_roots_stored : (n : ℕ) (v : Value) (p : Pack) (rs : List PauliRef) → ValueWord l v → Packed p → Packed (pack_roots l n v p rs)
  unfolding pack_roots
  pack_roots_stored n v p [] h s = s
  pack_roots_stored n v p (r ∷ rs) h s =
      pack_roots_stored n v (when p.refused then p else pack_root l n v p r) rs h (by_if Packed p.refused p (pack_root l n v p r) s (pack_root_stored n v p r h s))

  module _ (rs : List PauliRef) (vs : List Value) (words : Every (ValueWord l) vs) where
    pack_node_stored : (n : ℕ) (node : Node) (p : Pack) → n < length vs → Packed p → Packed (pack_node l rs vs n node p)
    unfolding pack_node
    pack_node_stored n node p b s =
        by_if Packed _ _ _ s (pack_roots_stored n (value_at vs n) (take_slot l (use_children node p)) (roots_at n rs)
        (every_at (ValueWord l) vs (as_value []) n words b) (take_slot_stored (use_children node p) (use_children_stored node p s)))

    pack_from_stored : (n : ℕ) (nodes : List Node) (p : Pack) → n + length nodes ≤ length vs → Packed p → Packed (pack_from l rs vs n nodes p)
    unfolding pack_from
    pack_from_stored n [] p b s = s
    pack_from_stored n (node ∷ rest) p b s =
        pack_from_stored (suc n) rest (pack_node l rs vs n node p) (omega arith) (pack_node_stored n node p (omega arith) s)

-- packing stores words, each once: also where it ends with 9
pub packed_stored : (p : Program) → Fine p → StoredWords (width p.qubits) (packed p).store.axes
unfolding packed
packed_stored p f =
    pack_from_stored (width p.qubits) (roots p) (values_of p) (values_words p f) 0 p.nodes (empty_pack p.nodes (roots p))
    (omega (arith, values_length p)) (unfold empty_pack in (none_stored (width p.qubits)))
