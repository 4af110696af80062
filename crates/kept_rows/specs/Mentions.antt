-- A node's value acts only on qubits that the node mentions; so a frame row that is no root commutes with every operation. Assumes nothing.
use Rattle.std.specs.Prelude.{◌≡◌, refl, ◌⊎◌, Bool, true, ◌||◌, ℕ, zero, suc, ◌*◌, ◌%◌, ◌≤◌, ◌<◌, eqb, length}
use Rattle.std.proofs.Common.{sym, ◌∙◌, inr, ⊎_elim, le_trans, arith, eqb-true}
use Rattle.std.proofs.Math.Path.{ap₂}
use Rattle.std.proofs.Math.Logic.{inl}
use Rattle.std.proofs.Math.Bool.{false}
use Rattle.std.proofs.lemmas.Bool.{false≢true, eqb-false}
use mathlib.Core.List.{List, [], ◌∷◌, ◌++◌, map, flatten}
use Rattle.bits.specs.Bit.{zero_bit}
use Rattle.pauli.specs.Word.{width, IsWord, symplectic}
use Rattle.pauli.specs.Letter.{letter_of, letter_at}
use Rattle.pauli.specs.LetterLaws.{width_holds, letter_mul, letter_xor, single_elsewhere, identity_letter}
use Rattle.model.specs.Lists.{any_of, member}
use Rattle.model.specs.Program.{Node, identity, letter, product, Operation, PauliRef, Program}
use Rattle.model.specs.Words.{Value, as_value, scaled, multiply}
use Rattle.model.specs.Value.{node_value, value_at, values_from, values, node_mentions, mentions_at, mentions_from, mentions}
use Rattle.model.specs.Roots.{acted_on, relevant, is_root}
use Rattle.model.specs.Packing.{values_of}
use Rattle.theory.specs.Cases.{neither}
use Rattle.theory.specs.Lists.{any_append}
use Rattle.theory.specs.Every.{Every, every_at, every_unmap}
use Rattle.theory.specs.Checked.{LeafIn, Fine}
use Rattle.words_wellformed.specs.Commuting.{apart_commute}
use Rattle.words_wellformed.specs.PackedWords.{ValueWord, values_words, values_length}

-- ---- members

-- a test that fails for all of two lists, one behind the other
none_append : {A : Type 0} (f : A → Bool) (xs ys : List A) → any_of f (xs ++ ys) ≡ false → (any_of f xs ≡ false) × (any_of f ys ≡ false)
none_append f xs ys h = neither (any_of f xs) (any_of f ys) (sym (any_append f xs ys) ∙ h)

-- neither of two lists has it
member_append : (q : ℕ) (xs ys : List ℕ) → member q (xs ++ ys) ≡ false → (member q xs ≡ false) × (member q ys ≡ false)
unfolding member
member_append q xs ys h = none_append (eqb q) xs ys h

member_flatten : (q : ℕ) (xss : List (List ℕ)) → member q (flatten xss) ≡ false → Every (λ xs. member q xs ≡ false) xss
unfolding flatten
member_flatten q [] h = tt
member_flatten q (xs ∷ xss) h = let e = member_append q xs (flatten xss) h in (e.0, member_flatten q xss e.1)

-- what fails for every member
any_none : (f : ℕ → Bool) (q : ℕ) (xs : List ℕ) → any_of f xs ≡ false → member q xs ≡ true → f q ≡ false
unfolding member any_of
any_none f q [] h m = absurd (false≢true m)
any_none f q (x ∷ xs) h m =
    let e = neither (f x) (any_of f xs) h in
    go (eqb q x) refl m e.0 (any_none f q xs e.1)
  where
    go : (t : Bool) → eqb q x ≡ t → t || any_of (eqb q) xs ≡ true → f x ≡ false → (any_of (eqb q) xs ≡ true → f q ≡ false) → f q ≡ false
    go true e k g ih = rw (eqb-true q x e) g
    go false e k g ih = ih k

-- ---- values act on mentioned qubits only

module _ (l : ℕ) where
  -- v acts on no qubit but those of m
  abbrev Within : Value → List ℕ → Type 0
  Within v m = (q : ℕ) → q < 64 * l → member q m ≡ false → letter_at l v.word q ≡ 0

  -- so for values and mentions, one by one
  abbrev AllWithin : List Value → List (List ℕ) → Type 0
  AllWithin [] [] = Unit {0}
  AllWithin [] (m ∷ ms) = ⊥
  AllWithin (v ∷ vs) [] = ⊥
  AllWithin (v ∷ vs) (m ∷ ms) = Within v m × AllWithin vs ms

  nothing_within : (m : List ℕ) → Within (as_value []) m
  nothing_within m q b h = ap₂ letter_of (zero_bit (q % 64)) (zero_bit (q % 64))

  within_at : (vs : List Value) (ms : List (List ℕ)) (n : ℕ) → AllWithin vs ms → Within (value_at vs n) (mentions_at ms n)
  within_at [] [] n h = nothing_within []
  within_at [] (m ∷ ms) n h = absurd h
  within_at (v ∷ vs) [] n h = absurd h
  within_at (v ∷ vs) (m ∷ ms) zero h = h.0
  within_at (v ∷ vs) (m ∷ ms) (suc n) h = within_at vs ms n h.1

  within_one : (vs : List Value) (ms : List (List ℕ)) (v : Value) (m : List ℕ) → AllWithin vs ms → Within v m
      → AllWithin (vs ++ (v ∷ [])) (ms ++ (m ∷ []))
  within_one [] [] v m h k = (k, tt)
  within_one [] (n ∷ ms) v m h k = absurd h
  within_one (u ∷ vs) [] v m h k = absurd h
  within_one (u ∷ vs) (n ∷ ms) v m h k = (h.0, within_one vs ms v m h.1 k)

  node_within : (qubits : ℕ) (f : ℕ → Value) (g : ℕ → List ℕ) (node : Node) → qubits ≤ 64 * l → LeafIn qubits node
      → ((i : ℕ) → Within (f i) (g i))
      → Within (node_value l f node) (node_mentions g node)
  unfolding node_value node_mentions multiply scaled
  node_within qubits f g identity wide leaf h q b m = identity_letter l q
  node_within qubits f g (letter x c) wide leaf h q b m =
      single_elsewhere l x c (le_trans leaf.0 wide) q b (eqb-false q x (unfold member any_of in (neither (eqb q x) false m).0))
  node_within qubits f g (product a u c v) wide leaf h q b m =
      let e = member_append q (g a) (g c) m in
      letter_xor l (f a).word (f c).word q ∙ ap₂ letter_mul (h a q b e.0) (h c q b e.1)

  from_within : (qubits : ℕ) (vs : List Value) (ms : List (List ℕ)) (nodes : List Node) → qubits ≤ 64 * l → Every (LeafIn qubits) nodes
      → AllWithin vs ms → AllWithin (values_from l vs nodes) (mentions_from ms nodes)
  unfolding values_from mentions_from
  from_within qubits vs ms [] wide leaves h = h
  from_within qubits vs ms (node ∷ rest) wide leaves h =
      from_within qubits (vs ++ (node_value l (value_at vs) node ∷ [])) (ms ++ (node_mentions (mentions_at ms) node ∷ [])) rest wide leaves.1
      (within_one vs ms _ _ h (node_within qubits (value_at vs) (mentions_at ms) node wide leaves.0 (λ i. within_at vs ms i h)))

-- a node's value acts only on qubits that the node mentions
pub value_within : (p : Program) → Fine p → (n q : ℕ) → q < 64 * width p.qubits → member q (mentions_at (mentions p.nodes) n) ≡ false
    → letter_at (width p.qubits) (value_at (values_of p) n).word q ≡ 0
unfolding values mentions
value_within p fine n =
    within_at (width p.qubits) (values_of p) (mentions p.nodes) n
    (from_within (width p.qubits) p.qubits [] [] p.nodes (width_holds p.qubits) fine.leaves tt)

-- ---- rows that are no roots

module _ (p : Program) (fine : Fine p) where
  abbrev l : ℕ
  l = width p.qubits

  abbrev word_at : ℕ → List ℕ
  word_at n = (value_at (values_of p) n).word

  -- a node's value is a word
  pub node_word : (n : ℕ) → n < length p.nodes → IsWord (width p.qubits) (value_at (values_of p) n).word
  node_word n b = every_at (ValueWord l) (values_of p) (as_value []) n (values_words p fine) (omega (arith, values_length p))

  module _ (f : PauliRef) (inside : f.node < length p.nodes) (kept : is_root p f ≡ false) where
    -- at each qubit the row has I, or all operations have
    one_acts : (q : ℕ) → q < 64 * l
        → (letter_at l (word_at f.node) q ≡ 0) ⊎ Every (λ (o : Operation). letter_at l (word_at o.node) q ≡ 0) p.operations
    one_acts q b = go (member q (mentions_at (mentions p.nodes) f.node)) refl
      where
        others : (ops : List Operation) → Every (λ (o : Operation). member q (mentions_at (mentions p.nodes) o.node) ≡ false) ops
            → Every (λ (o : Operation). letter_at l (word_at o.node) q ≡ 0) ops
        others [] h = tt
        others (o ∷ ops) h = (value_within p fine o.node q b h.0, others ops h.1)

        free : member q (acted_on p) ≡ false
            → Every (λ (o : Operation). member q (mentions_at (mentions p.nodes) o.node) ≡ false) p.operations
        free h =
            let of : Operation → List ℕ = λ o. mentions_at (mentions p.nodes) o.node in
            every_unmap (λ xs. member q xs ≡ false) of p.operations (member_flatten q (map of p.operations) (unfold acted_on in h))

        go : (t : Bool) → member q (mentions_at (mentions p.nodes) f.node) ≡ t
            → (letter_at l (word_at f.node) q ≡ 0) ⊎ Every (λ (o : Operation). letter_at l (word_at o.node) q ≡ 0) p.operations
        go true e =
            inr (others p.operations
            (free (any_none (λ i. member i (acted_on p)) q (mentions_at (mentions p.nodes) f.node) (unfold is_root relevant in kept) e)))
        go false e = inl (value_within p fine f.node q b e)

    apart : (ops : List Operation)
        → ((q : ℕ) → q < 64 * l → (letter_at l (word_at f.node) q ≡ 0) ⊎ Every (λ (o : Operation). letter_at l (word_at o.node) q ≡ 0) ops)
        → Every (λ (o : Operation). symplectic l (word_at f.node) (word_at o.node) ≡ 0) ops
    apart [] h = tt
    apart (o ∷ ops) h = (
      apart_commute l (word_at f.node) (word_at o.node) (node_word f.node inside) (λ q b. ⊎_elim (λ e. inl e) (λ e. inr e.0) (h q b)),
      apart ops (λ q b. ⊎_elim (λ e. inl e) (λ e. inr e.1) (h q b)),
    )

    -- a row that is no root commutes with every operation
    pub row_commutes : Every (λ (o : Operation). symplectic (width p.qubits) (value_at (values_of p) f.node).word
        (value_at (values_of p) o.node).word ≡ 0) p.operations
    row_commutes = apart p.operations one_acts
