-- What the passes ask of the words behind the axes' ids, and how it follows from the phases of the stored words. Assumes nothing.
use Rattle.std.specs.Prelude.{◌≡◌, Bool, true, false, ℕ, zero, suc, ◌%◌, ◌<◌, length}
use Rattle.std.proofs.Math.Path.{refl, ap}
use Rattle.std.proofs.Common.{sym, ◌∙◌, arith}
use Rattle.std.proofs.Math.Bool.{not}
use mathlib.Core.List.{List, [], ◌∷◌}
use Rattle.std.proofs.Math.Dec.{eqb}
use Rattle.std.proofs.lemmas.Bool.{not-true}
use Rattle.store.specs.Equal.{same_list}
use Rattle.pauli.specs.Word.{xor_words, phase, anticommutes}
use Rattle.pauli.specs.ProductLaws.{phase_lt, phase_odd}
use Rattle.model.specs.Lists.{all_of}
use Rattle.model.specs.Words.{word_of, anticommute}
use Rattle.model.specs.Items.{Rot}
use Rattle.theory.specs.Every.{Every}
use Rattle.effect.specs.Phase.{Quarter, q0, q1, q2, q3, quarter, odd}
use Rattle.effect.specs.Words.{Setting}
use Rattle.items_effect.specs.Rotations.{Commutes}
use Rattle.theory.specs.Cases.{and_left, and_right}

-- one quarter turn
abbrev pub is_one : Quarter → Bool
is_one q0 = false
is_one q1 = true
is_one q2 = false
is_one q3 = false

-- ids below the number of axes stand for words: the model's tests of stored words are those of the words
pub record AxisWords (H : Setting) (l : ℕ) (axes : List (List ℕ)) : Type 0 where
  pub word : ℕ → H.words.W
  pub anti : (a b : ℕ) → a < length axes → b < length axes → anticommute l axes a b ≡ odd (H.words.ph (word a) (word b))
  -- PQ = iR
  pub ph1 : (a b : ℕ) → a < length axes → b < length axes
      → eqb (phase l (word_of axes a) (word_of axes b)) 1 ≡ is_one (H.words.ph (word a) (word b))
  -- one product word, both ways
  pub same_product : (a b c d : ℕ) → a < length axes → b < length axes → c < length axes → d < length axes
      → same_list (xor_words (word_of axes a) (word_of axes b)) (xor_words (word_of axes c) (word_of axes d)) ≡ true
      → H.words.◌⊕◌ (word a) (word b) ≡ H.words.◌⊕◌ (word c) (word d)
  pub product_same : (a b c d : ℕ) → a < length axes → b < length axes → c < length axes → d < length axes
      → H.words.◌⊕◌ (word a) (word b) ≡ H.words.◌⊕◌ (word c) (word d)
      → same_list (xor_words (word_of axes a) (word_of axes b)) (xor_words (word_of axes c) (word_of axes d)) ≡ true

-- a rotation about a stored axis
abbrev pub HasAxis : List (List ℕ) → Rot → Type 0
HasAxis axes r = r.axis < length axes

-- and with an angle that is a remainder by 8, as the model's signed angles need it
abbrev pub Sound : List (List ℕ) → Rot → Type 0
Sound axes r = HasAxis axes r × (r.angle < 8)

-- ---- the model's tests

module _ (H : Setting) (l : ℕ) (axes : List (List ℕ)) (A : AxisWords H l axes) where
  -- a rotation that passes the test against another commutes with it
  pub commutes_one : (x r : Rot) → HasAxis axes x → HasAxis axes r → anticommute l axes x.axis r.axis ≡ false
      → Commutes H A.word r x
  commutes_one x r hx hr e = sym (A.anti x.axis r.axis hx hr) ∙ e

  -- and so against each of a list
  pub commutes_all : (g : List Rot) (r : Rot) → Every (HasAxis axes) g → HasAxis axes r
      → all_of (λ (x : Rot). not (anticommute l axes x.axis r.axis)) g ≡ true → Every (Commutes H A.word r) g
  unfolding all_of
  commutes_all [] r h k e = tt
  commutes_all (x ∷ g) r h k e =
      let one = not (anticommute l axes x.axis r.axis) in
      let rest = all_of (λ (x : Rot). not (anticommute l axes x.axis r.axis)) g in
      (commutes_one x r h.0 k (not-true _ (and_left one rest e)), commutes_all g r h.1 k (and_right one rest e))

-- ---- from the phases of the stored words: the tests of one pair follow from `phase` alone

odd_quarter : (e : ℕ) → e < 4 → eqb (e % 2) 1 ≡ odd (quarter e)
unfolding quarter
odd_quarter zero h = refl
odd_quarter (suc zero) h = refl
odd_quarter (suc (suc zero)) h = refl
odd_quarter (suc (suc (suc zero))) h = refl
odd_quarter (suc (suc (suc (suc e)))) h = absurd (omega arith)

one_quarter : (e : ℕ) → e < 4 → eqb e 1 ≡ is_one (quarter e)
unfolding quarter
one_quarter zero h = refl
one_quarter (suc zero) h = refl
one_quarter (suc (suc zero)) h = refl
one_quarter (suc (suc (suc zero))) h = refl
one_quarter (suc (suc (suc (suc e)))) h = absurd (omega arith)

module _ (H : Setting) (l : ℕ) (axes : List (List ℕ)) (word : ℕ → H.words.W) where
  open H use {words as Ws}
  open Ws use {W, ◌⊕◌, ph}

  infixl 65 ◌⊕◌
  -- PQ = i^e R has the model's e
  abbrev pub SamePhases : Type 0
  SamePhases = (a b : ℕ) → a < length axes → b < length axes → ph (word a) (word b) ≡ quarter (phase l (word_of axes a) (word_of axes b))

  -- R is the exclusive or: one R, one list
  abbrev pub SameProducts : Type 0
  SameProducts = (a b c d : ℕ) → a < length axes → b < length axes → c < length axes → d < length axes
      → (same_list (xor_words (word_of axes a) (word_of axes b)) (xor_words (word_of axes c) (word_of axes d)) ≡ true → word a ⊕ word b ≡ word c ⊕ word d)
      × (word a ⊕ word b ≡ word c ⊕ word d → same_list (xor_words (word_of axes a) (word_of axes b)) (xor_words (word_of axes c) (word_of axes d)) ≡ true)

  -- all that the passes ask
  pub from_phases : SamePhases → SameProducts → AxisWords H l axes
  unfolding anticommute anticommutes
  from_phases phases products = record {
    word = word;
    anti = λ a b ha hb.
        let p = word_of axes a in
        let q = word_of axes b in
        ap (λ (n : ℕ). eqb n 1) (sym (phase_odd l p q)) ∙ odd_quarter (phase l p q) (phase_lt l p q) ∙ ap odd (sym (phases a b ha hb));
    ph1 = λ a b ha hb.
        let e = phase l (word_of axes a) (word_of axes b) in
        one_quarter e (phase_lt l (word_of axes a) (word_of axes b)) ∙ ap is_one (sym (phases a b ha hb));
    same_product = λ a b c d ha hb hc hd. (products a b c d ha hb hc hd).0;
    product_same = λ a b c d ha hb hc hd. (products a b c d ha hb hc hd).1;
  }

  -- with the words that were given
  pub from_phases_word : (phases : SamePhases) (products : SameProducts) → (from_phases phases products).word ≡ word
  unfolding from_phases
  from_phases_word phases products = refl
