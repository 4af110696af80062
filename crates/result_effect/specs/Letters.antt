-- The letters that a listing prints are those of its axes. Assumes nothing.
use Rattle.std.specs.Prelude.{◌≡◌, ◌⊎◌, Bool, true, false, ◌&&◌, length}
use Rattle.std.proofs.Math.Path.{refl, ap, ap₂}
use Rattle.std.proofs.Common.{sym, ◌∙◌, inr, zero-add, le_refl, eqb-true, eq-eqb, ne_eqb}
use Rattle.std.proofs.Math.Logic.{inl}
use mathlib.Core.List.{List, [], ◌∷◌, ◌++◌, map}
use Prim.Native.Nat.{ℕ, zero, suc, ◌+◌, ◌*◌, ◌%◌, ◌≤◌, ◌<◌}
use native.Mathlib.Omega.{arith}
use Rattle.std.proofs.Math.Dec.{eqb}
use Rattle.std.proofs.lemmas.Bool.{eqb-false}
use Rattle.bits.specs.Bit.{bit_digit}
use Rattle.pauli.specs.Word.{IsWord}
use Rattle.pauli.specs.Letter.{letter_at}
use Rattle.pauli.specs.LetterLaws.{letters_ext, from_letters, from_letters_word, from_letters_letter}
use Rattle.model.specs.Words.{support, word_of}
use Rattle.model.specs.Listing.{letter_lines}
use Rattle.theory.specs.Cases.{if_true, if_false}
use Rattle.theory.specs.Every.{Every}
use Rattle.words_wellformed.specs.HeldImages.{idle, letter_small}
use Rattle.words_wellformed.specs.SupportQubits.{support_each}
use Rattle.result_effect.specs.Definitions.{letter_read, axes_read}

module _ (l : ℕ) where
  -- a letter's line
  abbrev line : ℕ → List ℕ → ℕ → List ℕ
  line id w q = id ∷ q ∷ letter_at l w q ∷ []

  -- ---- lines that are passed over

  other_id : (id a : ℕ) (w qs : List ℕ) (rest : List (List ℕ)) (q : ℕ) → (id ≡ a → ⊥)
      → letter_read (map (line id w) qs ++ rest) a q ≡ letter_read rest a q
  unfolding letter_read
  other_id id a w [] rest q n = refl
  other_id id a w (x ∷ qs) rest q n =
      if_false (letter_at l w x) _ (ap (λ (b : Bool). b && eqb x q) (ne_eqb id a n)) ∙ other_id id a w qs rest q n

  other_qubits : (id : ℕ) (w qs : List ℕ) (rest : List (List ℕ)) (q : ℕ) → Every (λ x. x ≡ q → ⊥) qs
      → letter_read (map (line id w) qs ++ rest) id q ≡ letter_read rest id q
  unfolding letter_read
  other_qubits id w [] rest q h = refl
  other_qubits id w (x ∷ qs) rest q h =
      if_false (letter_at l w x) _ (ap₂ (λ (a : Bool) (b : Bool). a && b) (eq-eqb id id refl) (ne_eqb x q h.0))
      ∙ other_qubits id w qs rest q h.1

  -- ids rise
  before : (id : ℕ) (axes : List (List ℕ)) (a q : ℕ) → a < id → letter_read (letter_lines l id axes) a q ≡ 0
  unfolding letter_lines letter_read
  before id [] a q h = refl
  before id (w ∷ axes) a q h = other_id id a w (support l w) (letter_lines l (suc id) axes) q (omega arith) ∙ before (suc id) axes a q (omega arith)

  -- ---- the line that is found

  found : (id : ℕ) (w qs : List ℕ) (rest : List (List ℕ)) (q : ℕ)
      → Every (λ x. x ≡ q → ⊥) qs ⊎ (letter_read (map (line id w) qs ++ rest) id q ≡ letter_at l w q)
  unfolding letter_read
  found id w [] rest q = inl tt
  found id w (x ∷ qs) rest q = go (eqb x q) refl (found id w qs rest q)
    where
      test : (b : Bool) → eqb x q ≡ b → eqb id id && eqb x q ≡ b
      test b e = ap₂ (λ (a : Bool) (c : Bool). a && c) (eq-eqb id id refl) e

      go : (b : Bool) → eqb x q ≡ b → Every (λ y. y ≡ q → ⊥) qs ⊎ (letter_read (map (line id w) qs ++ rest) id q ≡ letter_at l w q)
          → Every (λ y. y ≡ q → ⊥) (x ∷ qs) ⊎ (letter_read (map (line id w) (x ∷ qs) ++ rest) id q ≡ letter_at l w q)
      go true e k = inr (if_true (letter_at l w x) _ (test true e) ∙ ap (λ (y : ℕ). letter_at l w y) (eqb-true x q e))
      go false e (inl k) = inl (eqb-false x q e, k)
      go false e (inr k) = inr (if_false (letter_at l w x) _ (test false e) ∙ k)

  own_letter : (id : ℕ) (w : List ℕ) (axes : List (List ℕ)) (q : ℕ) → q < 64 * l
      → letter_read (letter_lines l id (w ∷ axes)) id q ≡ letter_at l w q
  unfolding letter_lines
  own_letter id w axes q b = go (found id w (support l w) rest q)
    where
      rest : List (List ℕ)
      rest = letter_lines l (suc id) axes

      go : Every (λ x. x ≡ q → ⊥) (support l w) ⊎ (letter_read (map (line id w) (support l w) ++ rest) id q ≡ letter_at l w q)
          → letter_read (map (line id w) (support l w) ++ rest) id q ≡ letter_at l w q
      go (inl h) =
          other_qubits id w (support l w) rest q h ∙ before (suc id) axes id q (omega arith)
          ∙ sym (idle (letter_at l w q) (λ e. support_each l w (λ x. x ≡ q → ⊥) h q b e refl))
      go (inr h) = h

  -- the letters of axis a
  letters_read : (id : ℕ) (axes : List (List ℕ)) (a q : ℕ) → a < length axes → q < 64 * l
      → letter_read (letter_lines l id axes) (a + id) q ≡ letter_at l (word_of axes a) q
  unfolding letter_lines
  letters_read id [] a q h b = absurd (omega arith)
  letters_read id (w ∷ axes) zero q h b = rw (zero-add id) (own_letter id w axes q b)
  letters_read id (w ∷ axes) (suc a) q h b =
      let place : a + suc id ≡ suc a + id = omega arith in
      other_id id (suc a + id) w (support l w) (letter_lines l (suc id) axes) q (omega arith)
      ∙ (rw place at (letters_read (suc id) axes a q (omega arith) b))

  -- ---- so the words are found

  words_read : (id : ℕ) (axes lines : List (List ℕ)) → ((a : ℕ) → a < length axes → IsWord l (word_of axes a))
      → ((a q : ℕ) → a < length axes → q < 64 * l → letter_read lines (a + id) q ≡ letter_at l (word_of axes a) q)
      → axes_read l id (length axes) lines ≡ axes
  unfolding axes_read
  words_read id [] lines words same = refl
  words_read id (w ∷ axes) lines words same =
      ap₂ (λ (x : List ℕ) (xs : List (List ℕ)). x ∷ xs)
      (letters_ext l (from_letters l f (64 * l)) w (from_letters_word l f (64 * l) (le_refl _)) (words 0 (omega arith)) letter)
      (words_read (suc id) axes lines (λ a b. words (suc a) (omega arith)) (λ a q b c.
      let place : a + suc id ≡ suc a + id = omega arith in
      ap (λ (n : ℕ). letter_read lines n q) place ∙ same (suc a) q (omega arith) c))
    where
      f : ℕ → ℕ
      f = letter_read lines id

      first : (q : ℕ) → q < 64 * l → f q ≡ letter_at l w q
      first q b = ap (λ (n : ℕ). letter_read lines n q) (sym (zero-add id)) ∙ same 0 q (omega arith) b

      letter : (q : ℕ) → q < 64 * l → letter_at l (from_letters l f (64 * l)) q ≡ letter_at l w q
      letter q b =
          let small : letter_at l w q ≤ 3 = letter_small (bit_digit _ (q % 64)) (bit_digit _ (q % 64)) in
          from_letters_letter l f (64 * l) q b (le_refl _) (omega (arith, first q b)) ∙ first q b

  -- the axes of a listing are read off its letters
  pub axes_read_lem : (axes : List (List ℕ)) → ((a : ℕ) → a < length axes → IsWord l (word_of axes a))
      → axes_read l 0 (length axes) (letter_lines l 0 axes) ≡ axes
  axes_read_lem axes words = words_read 0 axes (letter_lines l 0 axes) words (letters_read 0 axes)
