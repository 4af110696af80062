-- Ids renamed: words stay, and different ids stay different. Every store's ids are renamed into those of a larger one. Assumes nothing.
use Rattle.std.specs.Prelude.{◌≡◌, refl, Bool, true, false, List, [], ◌++◌, ℕ, ◌+◌, ◌<◌, eqb, ltb, length}
use Rattle.std.proofs.Common.{sym, ap, ◌∙◌, arith, length-append, get_or-append-add, lt-ltb, le-ltb, eqb-true, eq-eqb, ne_eqb}
use Rattle.std.proofs.Math.Decide.{dec_lt}
use Rattle.std.proofs.Math.ListN.{get_or-eq_default}
use Rattle.std.proofs.lemmas.Bool.{eqb-false}
use Rattle.model.specs.Lists.{when◌then◌else◌}
use Rattle.model.specs.Words.{id_of, word_of}
use Rattle.model.specs.Items.{Rot, rot, Item, rotation, barrier}
use Rattle.theory.specs.Cases.{if_true, if_false}
use Rattle.theory.specs.Ids.{Stored, id_word, id_first}
use Rattle.words_wellformed.specs.StoredWords.{StoredWords, id_kept}

-- ρ renames the ids of the axes A to ids of the axes C
pub record Renames (A C : List (List ℕ)) (ρ : ℕ → ℕ) : Type 0 where
  pub words : (a : ℕ) → word_of C (ρ a) ≡ word_of A a
  pub same : (a b : ℕ) → eqb (ρ a) (ρ b) ≡ eqb a b

abbrev pub renamed_rot : (ℕ → ℕ) → Rot → Rot
renamed_rot ρ r = rot (ρ r.axis) r.angle

-- ids by ρ, the indices of operations by τ
abbrev pub renamed : (ℕ → ℕ) → (ℕ → ℕ) → Item → Item
renamed ρ τ (rotation r) = rotation (renamed_rot ρ r)
renamed ρ τ (barrier o a s) = barrier (τ o) (ρ a) s

-- ---- into a store that has every word

-- every word of A stands in C
abbrev pub Within : List (List ℕ) → List (List ℕ) → Type 0
Within A C = (a : ℕ) → a < length A → Stored C (word_of A a)

-- an id of A goes to its word's id in C; a number that is no id stays none
unfoldable pub into : List (List ℕ) → List (List ℕ) → ℕ → ℕ
into A C a = when ltb a (length A) then id_of C (word_of A a) else length C + a

into_in : (A C : List (List ℕ)) (a : ℕ) → a < length A → into A C a ≡ id_of C (word_of A a)
unfolding into
into_in A C a h = if_true _ _ (lt-ltb a (length A) h)

into_out : (A C : List (List ℕ)) (a : ℕ) → ¬ (a < length A) → into A C a ≡ length C + a
unfolding into
into_out A C a h = if_false _ _ (le-ltb a (length A) (omega arith))

-- a stored word's id
pub into_id : (A C : List (List ℕ)) (w : List ℕ) → Stored A w → into A C (id_of A w) ≡ id_of C w
into_id A C w h = into_in A C (id_of A w) h ∙ ap (id_of C) (id_word A w h)

-- different ids stay different
eqb_kept : (f : ℕ → ℕ) → ((a b : ℕ) → f a ≡ f b → a ≡ b) → (a b : ℕ) → eqb (f a) (f b) ≡ eqb a b
eqb_kept f inj a b = go (eqb (f a) (f b)) refl
  where
    go : (t : Bool) → eqb (f a) (f b) ≡ t → t ≡ eqb a b
    go true e = sym (eq-eqb a b (inj a b (eqb-true (f a) (f b) e)))
    go false e = sym (ne_eqb a b (λ d. eqb-false (f a) (f b) e (ap f d)))

module _ (l : ℕ) (A C : List (List ℕ)) (stored : StoredWords l A) (within : Within A C) where
  into_words : (a : ℕ) → word_of C (into A C a) ≡ word_of A a
  into_words a = go (dec_lt a (length A))
    where
      go : Dec (a < length A) → word_of C (into A C a) ≡ word_of A a
      go (yes h) = ap (word_of C) (into_in A C a h) ∙ id_word C (word_of A a) (within a h)
      go (no n) =
          ap (word_of C) (into_out A C a n)
          ∙ get_or-eq_default C [] (omega arith) ∙ sym (get_or-eq_default A [] (omega arith))

  into_injective : (a b : ℕ) → into A C a ≡ into A C b → a ≡ b
  into_injective a b e = go (dec_lt a (length A)) (dec_lt b (length A))
    where
      words : word_of A a ≡ word_of A b
      words = sym (into_words a) ∙ ap (word_of C) e ∙ into_words b

      go : Dec (a < length A) → Dec (b < length A) → a ≡ b
      go (yes h) (yes k) = sym (stored.distinct a h) ∙ ap (id_of A) words ∙ stored.distinct b k
      go (yes h) (no k) =
          let x = into_in A C a h in let y = into_out A C b k in let z = within a h in absurd (omega arith)
      go (no h) (yes k) =
          let x = into_out A C a h in let y = into_in A C b k in let z = within b k in absurd (omega arith)
      go (no h) (no k) = let x = into_out A C a h in let y = into_out A C b k in omega arith

  pub into_renames : Renames A C (into A C)
  into_renames = record { words = into_words; same = eqb_kept (into A C) into_injective }

-- ---- stores one behind the other

-- a word of the first
pub stored_front : (X Y : List (List ℕ)) (w : List ℕ) → Stored X w → Stored (X ++ Y) w
stored_front X Y w h = let k = id_kept X Y w h in let n = length-append X Y in omega arith

-- a word of the second
pub stored_behind : (X Y : List (List ℕ)) (w : List ℕ) → Stored Y w → Stored (X ++ Y) w
stored_behind X Y w h =
    let n = length-append X Y in
    let k = id_first (X ++ Y) w (length X + id_of Y w) (omega arith) (get_or-append-add X Y (id_of Y w) [] ∙ id_word Y w h) in
    omega arith

-- an axis's own word
pub within_self : (l : ℕ) (A : List (List ℕ)) → StoredWords l A → Within A A
within_self l A s a h = let e = s.distinct a h in omega arith
