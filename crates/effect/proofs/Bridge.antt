-- The model's F, images that are held and multiplied, is the theory's: a word's image under one absorbed rotation after the other.
-- Assumes nothing.
use Rattle.std.specs.Prelude.{◌≡◌, Bool, not, eqb, pos, length, set}
use Rattle.std.proofs.Math.Path.{refl, sym, ap, subst}
use Rattle.std.proofs.Common.{◌∙◌, ap₂}
use Rattle.std.proofs.Math.Bool.{true, false}
use Rattle.std.proofs.lemmas.Bool.{false≢true}
use mathlib.Core.List.{List, [], ◌∷◌, ◌++◌}
use Prim.Native.Nat.{ℕ, zero, suc, ◌+◌, ◌*◌, ◌/◌, ◌%◌, ◌^◌, ◌≤◌, ◌<◌}
use native.Mathlib.Omega.{arith}
use Rattle.std.proofs.Math.ListN.{length-set}
use Rattle.groups.specs.Normaliser.{at, ◌⊞◌, ab}
use Rattle.groups.specs.Eighth.{Eighth, eighth, is_even_e}
use Rattle.pauli.specs.Word.{IsWord, identity, xor_words, phase, symplectic, anticommutes}
use Rattle.pauli.specs.Letter.{has_x, has_z, letter_at, single, other, acts}
use Rattle.pauli.specs.ProductLaws.{phase_odd, anticommutes_true, anticommutes_false}
use Rattle.pauli.specs.LetterLaws.{identity_length, xor_words_word, from_letters}
use Rattle.model.specs.Lists.{when◌then◌else◌, numbers_from}
use Rattle.model.specs.Words.{Value, as_value, scaled, multiply, support}
use Rattle.model.specs.Clifford.{Images, absorb_image, Touched, absorb_word, letter_image, multiply_images, word_image}
use Rattle.model.specs.Items.{is_clifford}
use Rattle.theory.specs.Cases.{if_true, if_false}
use Rattle.effect.specs.Phase.{Quarter, q0, Quarterᵃ, odd, neg4, ◌⊞₄◌, add4_zero, quarter, quarter_add, quarter_mod}
use Rattle.effect.specs.Phase.{quarter_count}
use Rattle.effect.specs.Phase.{count}
use Rattle.effect.specs.Phase.{count_quarter, odd_half}
use Rattle.effect.specs.Effect.{pmul}
use Rattle.effect.specs.Conjugation.{conj, conj_at}
use Rattle.effect.proofs.Image.{image}
use Rattle.effect.proofs.Clifford.{Cliff, nothing, absorbed, absorbed_im, carry_row}
use Rattle.effect.proofs.Clifford.{carry_row_mul, carry_row_unit}
use Rattle.effect.specs.Packed.{Packed, packed_ext, mul, one, one_mul, one_phase, mul_comm, phase4, phase4_swap, packed}
use Rattle.theory.specs.Support.{walk, walk_append, numbers_append, walk_support}
use Rattle.effect.specs.Apart.{single_none, letter_at_lt, from_letters_own, next_letter}
use Rattle.effect.specs.Held.{Letter, letter_of, letter_image_absorb}

-- ---- the model's values and the theory's words with a phase

abbrev pub value_of : (l : ℕ) → Quarter × Packed l → Value
value_of l a = record { turns = count a.0; word = a.1.0 }

-- angles that can be absorbed
pub data Even : ℕ → Type 0 where
  two : Even 2
  four : Even 4
  six : Even 6

pub even_of : (k : ℕ) → k < 8 → is_clifford k ≡ true → Even k
even_of zero h e = absurd (false≢true e)
even_of (suc zero) h e = absurd (false≢true e)
even_of (suc (suc zero)) h e = two
even_of (suc (suc (suc zero))) h e = absurd (false≢true e)
even_of (suc (suc (suc (suc zero)))) h e = four
even_of (suc (suc (suc (suc (suc zero))))) h e = absurd (false≢true e)
even_of (suc (suc (suc (suc (suc (suc zero)))))) h e = six
even_of (suc (suc (suc (suc (suc (suc (suc zero))))))) h e = absurd (false≢true e)
even_of (suc (suc (suc (suc (suc (suc (suc (suc k)))))))) h e = absurd (omega arith)

pub even_angle : {k : ℕ} → Even k → is_even_e (eighth (pos k)) ≡ true
even_angle two = refl
even_angle four = refl
even_angle six = refl

-- turns are added modulo 4
count_add : (t : Quarter) (m : ℕ) → (count t + m) % 4 ≡ count (t ⊞₄ quarter m)
count_add t m = sym (count_quarter (count t + m)) ∙ ap count (quarter_add (count t) m ∙ ap (λ u. u ⊞₄ quarter m) (quarter_count t))

count_scaled : (t : Quarter) (f m : ℕ) → ((0 + count t + f) % 4 + m) % 4 ≡ count (t ⊞₄ (quarter m ⊞₄ quarter f))
count_scaled t f m =
    sym (count_quarter ((0 + count t + f) % 4 + m)) ∙ ap count (quarter_add ((0 + count t + f) % 4) m ∙ ap (λ u. u ⊞₄ quarter m) inner ∙ order)
  where
    inner : quarter ((0 + count t + f) % 4) ≡ t ⊞₄ quarter f
    inner =
        let e : 0 + count t + f ≡ count t + f = omega arith in
        quarter_mod (0 + count t + f) ∙ ap quarter e ∙ quarter_add (count t) f ∙ ap (λ u. u ⊞₄ quarter f) (quarter_count t)

    order : (t ⊞₄ quarter f) ⊞₄ quarter m ≡ t ⊞₄ (quarter m ⊞₄ quarter f)
    order = ab Quarterᵃ (t ∷ quarter f ∷ quarter m ∷ []) ((at 0 ⊞ at 1) ⊞ at 2) (at 0 ⊞ (at 2 ⊞ at 1)) refl

module _ (l : ℕ) where
  pub times_value : (a b : Quarter × Packed l) → multiply l (value_of l a) (value_of l b) ≡ value_of l (pmul (packed l) a b)
  unfolding multiply phase4
  times_value a b = λ i. record { turns = e i; word = xor_words a.1.0 b.1.0 }
    where
      f : ℕ
      f = phase l a.1.0 b.1.0

      both : quarter (count a.0 + count b.0) ≡ a.0 ⊞₄ b.0
      both = quarter_add (count a.0) (count b.0) ∙ ap₂ ◌⊞₄◌ (quarter_count a.0) (quarter_count b.0)

      e : (count a.0 + count b.0 + f) % 4 ≡ count ((a.0 ⊞₄ b.0) ⊞₄ quarter f)
      e =
          sym (count_quarter (count a.0 + count b.0 + f))
          ∙ ap count (quarter_add (count a.0 + count b.0) f ∙ ap (λ u. u ⊞₄ quarter f) both)

  -- an odd phase says that the words anticommute
  pub odd_anticommutes : (P Q : Packed l) → odd (phase4 l P Q) ≡ anticommutes l P.0 Q.0
  unfolding phase4 quarter
  odd_anticommutes P Q =
      sym (odd_half (phase l P.0 Q.0)) ∙ ap (λ (n : ℕ). odd (quarter n)) (phase_odd l P.0 Q.0) ∙ go
      (anticommutes l P.0 Q.0) refl
    where
      go : (d : Bool) → anticommutes l P.0 Q.0 ≡ d → odd (quarter (symplectic l P.0 Q.0)) ≡ d
      go true e = ap (λ (n : ℕ). odd (quarter n)) (anticommutes_true l P.0 Q.0 e)
      go false e = ap (λ (n : ℕ). odd (quarter n)) (anticommutes_false l P.0 Q.0 e)

  -- the image of an image, as a value
  abbrev image_at : Bool → Eighth → Packed l → Quarter × Packed l → Value
  image_at d e B a = value_of l (a.0 ⊞₄ (conj_at (packed l) d e B a.1).0, (conj_at (packed l) d e B a.1).1)

  absorb_true : {k : ℕ} → Even k → (B : Packed l) (a : Quarter × Packed l)
      → (when eqb k 4 then scaled 2 (value_of l a) else scaled (k / 2) (multiply l (as_value B.0) (value_of l a)))
      ≡ image_at true (eighth (pos k)) B a
  unfolding when◌then◌else◌ scaled multiply phase4 quarter
  absorb_true two B a = λ i. record { turns = count_scaled a.0 (phase l B.0 a.1.0) 1 i; word = xor_words B.0 a.1.0 }
  absorb_true four B a = λ i. record { turns = count_add a.0 2 i; word = a.1.0 }
  absorb_true six B a = λ i. record { turns = count_scaled a.0 (phase l B.0 a.1.0) 3 i; word = xor_words B.0 a.1.0 }

  -- 01's rule of absorption is the theory's image
  pub absorb_value : {k : ℕ} → Even k → (B : Packed l) (a : Quarter × Packed l)
      → absorb_image l B.0 k (value_of l a) ≡ value_of l (image (packed l) (eighth (pos k)) B a)
  unfolding absorb_image image conj
  absorb_value {k} x B a =
      go (anticommutes l B.0 a.1.0) refl ∙ ap (λ (d : Bool). image_at d (eighth (pos k)) B a) (sym (odd_anticommutes B a.1))
    where
      b : List ℕ
      b = B.0

      v : Value
      v = value_of l a

      moved : Value
      moved = when eqb k 4 then scaled 2 v else scaled (k / 2) (multiply l (as_value b) v)

      go : (d : Bool) → anticommutes l b a.1.0 ≡ d
          → (when not (anticommutes l b a.1.0) then v else moved) ≡ image_at d (eighth (pos k)) B a
      go true e = if_false v moved (ap not e) ∙ absorb_true x B a
      go false e = if_true v moved (ap not e) ∙ (λ i. record { turns = count (sym (add4_zero a.0) i); word = a.1.0 })

  -- ---- a letter as a word

  pub single_long : (q c : ℕ) → length (single l q c) ≡ 2 * l
  unfolding single
  single_long q c =
      length-set (set (identity l) (q / 64) (has_x c * 2 ^ (q % 64))) (l + q / 64) (has_z c * 2 ^ (q % 64))
      ∙ length-set (identity l) (q / 64) (has_x c * 2 ^ (q % 64)) ∙ identity_length l

  abbrev pub letter_word : ℕ → ℕ → Packed l
  letter_word q c = (single l q c, single_long q c)

  -- ---- the images that are held are the letters' images under F

  pub record ImagesOf (held : List Images) (F : Cliff (packed l)) : Type 0 where
    pub letters : (q c : ℕ) → q < 64 * l → Letter c → letter_image l held q c ≡ value_of l (F.im (letter_word q c))
    pub fits : (P : Packed l) → IsWord l P.0 → IsWord l (F.im P).1.0

  -- a pass starts with none
  pub holds_start : ImagesOf [] (nothing (packed l))
  unfolding letter_image nothing
  holds_start = record { letters = λ q c b x. refl; fits = λ P h. h }

  conj_at_word : (d : Bool) {k : ℕ} → Even k → (B P : Packed l) → IsWord l B.0 → IsWord l P.0
      → IsWord l (conj_at (packed l) d (eighth (pos k)) B P).1.0
  conj_at_word false x B P hb hp = hp
  conj_at_word true two B P hb hp = xor_words_word l B.0 P.0 hb hp
  conj_at_word true four B P hb hp = hp
  conj_at_word true six B P hb hp = xor_words_word l B.0 P.0 hb hp

  -- it absorbs angle k about B
  pub holds_absorb : (t : Touched) (F : Cliff (packed l)) (B : Packed l) {k : ℕ} (x : Even k) → IsWord l B.0 → ImagesOf t.held F
      → ImagesOf (absorb_word l t B.0 k).held (absorbed (packed l) F (eighth (pos k)) B (even_angle x))
  unfolding image conj
  holds_absorb t F B {k} x hb h = record {
    letters = λ q c b y.
        letter_image_absorb l t B.0 k hb q c b y ∙ ap (absorb_image l B.0 k) (h.letters q c b y) ∙ absorb_value x B (F.im (letter_word q c))
        ∙ ap (value_of l) (sym (absorbed_im (packed l) F (eighth (pos k)) B (even_angle x) (letter_word q c)));
    fits = λ P p.
        subst (λ (a : Quarter × Packed l). IsWord l a.1.0) (sym (absorbed_im (packed l) F (eighth (pos k)) B (even_angle x) P))
        (conj_at_word (odd (phase4 l B (F.im P).1)) x B (F.im P).1 hb (h.fits P p));
  }

  -- ---- a word is the product of its letters, so its image is the product of theirs

  module _ (w : List ℕ) where
    -- the first n letters
    prefix_long : (n : ℕ) → length (from_letters l (letter_at l w) n) ≡ 2 * l
    unfolding from_letters
    prefix_long zero = identity_length l
    prefix_long (suc n) = (mul l (from_letters l (letter_at l w) n, prefix_long n) (letter_word n (letter_at l w n))).1

    abbrev prefix : ℕ → Packed l
    prefix n = (from_letters l (letter_at l w) n, prefix_long n)

    -- letter q, multiplied behind
    abbrev with_letter : (Packed l → Quarter × Packed l) → Quarter × Packed l → ℕ → Quarter × Packed l
    with_letter m v q = pmul (packed l) v (m (letter_word q (letter_at l w q)))

    numbers_last : (n : ℕ) → numbers_from 0 (suc n) ≡ numbers_from 0 n ++ (n ∷ [])
    unfolding numbers_from
    numbers_last n =
        let e : suc n ≡ n + 1 = omega arith in
        let e' : 0 + n ≡ n = omega arith in
        ap (numbers_from 0) e ∙ numbers_append 0 n 1 ∙ ap (λ (a : ℕ). numbers_from 0 n ++ (a ∷ [])) e'

    letters_product : (n : ℕ) → n ≤ 64 * l → walk (with_letter (λ P. (q0, P))) (q0, one l) (numbers_from 0 n) ≡ (q0, prefix n)
    unfolding walk numbers_from from_letters phase4 quarter
    letters_product zero b = λ i. (q0, packed_ext l (one l) (prefix 0) refl i)
    letters_product (suc n) b =
        ap (walk step (q0, one l)) (numbers_last n) ∙ walk_append step (q0, one l) (numbers_from 0 n) (n ∷ [])
        ∙ ap (λ v. step v n) (letters_product n (omega arith))
        ∙ (λ i. (
          quarter (next_letter l (letter_at l w) n (omega arith) i),
          packed_ext l (mul l (prefix n) (letter_word n (letter_at l w n)))
              (prefix (suc n)) refl i,
        ))
      where
        step : Quarter × Packed l → ℕ → Quarter × Packed l
        step = with_letter (λ P. (q0, P))

    -- what multiplies takes the product of the letters to the product of their images
    images_product : (F : Cliff (packed l)) (v : Quarter × Packed l) (qs : List ℕ)
        → walk (with_letter F.im) (carry_row (packed l) F v) qs ≡ carry_row (packed l) F (walk (with_letter (λ P. (q0, P))) v qs)
    unfolding walk carry_row
    images_product F v [] = refl
    images_product F v (q ∷ qs) =
        ap (λ u. walk (with_letter F.im) u qs) (sym (carry_row_mul (packed l) F v (q0, letter_word q (letter_at l w q))))
        ∙ images_product F (pmul (packed l) v (q0, letter_word q (letter_at l w q))) qs

  -- a factor that is the identity
  times_one : (v : Quarter × Packed l) → pmul (packed l) v (q0, one l) ≡ v
  times_one v = λ i. (turns i, word i)
    where
      turns : (v.0 ⊞₄ q0) ⊞₄ phase4 l v.1 (one l) ≡ v.0
      turns =
          ap (λ t. (v.0 ⊞₄ q0) ⊞₄ t) (phase4_swap l (one l) v.1 ∙ ap neg4 (one_phase l v.1))
          ∙ add4_zero (v.0 ⊞₄ q0) ∙ add4_zero v.0

      word : mul l v.1 (one l) ≡ v.1
      word = mul_comm l v.1 (one l) ∙ one_mul l v.1

  -- the letter I's image is no factor
  letter_none : (F : Cliff (packed l)) (q : ℕ) → q < 64 * l → F.im (letter_word q 0) ≡ (q0, one l)
  letter_none F q b = ap F.im (packed_ext l (letter_word q 0) (one l) (single_none l q b)) ∙ F.im_unit

  -- the product of a word's letters' images, qubits rising, is the image of the word under F
  pub holds_image : (held : List Images) (F : Cliff (packed l)) → ImagesOf held F → (w : List ℕ) (h : IsWord l w)
      → word_image l held w ≡ value_of l (F.im (w, h.long))
  unfolding carry_row walk multiply_images word_image
  holds_image held F k w h =
      walked (as_value (identity l)) (support l w) ∙ walk_support (value_of l) model_step (with_letter w F.im) l w same (q0, one l)
      ∙ ap (λ v. value_of l (walk (with_letter w F.im) v (numbers_from 0 (64 * l)))) (sym (carry_row_unit (packed l) F))
      ∙ ap (value_of l) (images_product w F (q0, one l) (numbers_from 0 (64 * l)))
      ∙ ap (λ v. value_of l (carry_row (packed l) F v)) (letters_product w (64 * l) (omega arith))
      ∙ ap (λ P. value_of l (F.im P)) (packed_ext l (prefix w (64 * l)) (w, h.long) (from_letters_own l w h))
    where
      model_step : Value → ℕ → Value
      model_step v q = multiply l v (letter_image l held q (letter_at l w q))

      walked : (v : Value) (qs : List ℕ) → multiply_images l held w v qs ≡ walk model_step v qs
      walked v [] = refl
      walked v (q ∷ qs) = walked (model_step v q) qs

      at : (q c : ℕ) → q < 64 * l → c < 4 → letter_at l w q ≡ c
          → (other c ≡ 1 → (v : Quarter × Packed l) → model_step (value_of l v) q ≡ value_of l (with_letter w F.im v q))
          × (other c ≡ 0 → (v : Quarter × Packed l) → with_letter w F.im v q ≡ v)
      at q zero b d e = (
        λ z. absurd (omega arith),
        λ z v. ap (λ (c : ℕ). pmul (packed l) v (F.im (letter_word q c))) e ∙ ap (pmul (packed l) v) (letter_none F q b) ∙ times_one v,
      )
      at q (suc c) b d e = (
        λ z v. ap (multiply l (value_of l v)) (k.letters q (letter_at l w q) b (subst Letter (sym e) (letter_of (suc c) (omega arith) d)))
            ∙ times_value v _,
        λ z. absurd (omega arith),
      )

      same : (q : ℕ) → q < 64 * l
          → (acts l w q ≡ 1 → (v : Quarter × Packed l) → model_step (value_of l v) q ≡ value_of l (with_letter w F.im v q))
          × (acts l w q ≡ 0 → (v : Quarter × Packed l) → with_letter w F.im v q ≡ v)
      same q b = at q (letter_at l w q) b (letter_at_lt l w q) refl

  -- ---- what follows

  module _ (held : List Images) (F : Cliff (packed l)) (k : ImagesOf held F) where
    -- an image is a word
    pub image_word : (w : List ℕ) → IsWord l w → IsWord l (word_image l held w).word
    image_word w h = subst (λ (v : Value). IsWord l v.word) (sym (holds_image held F k w h)) (k.fits (w, h.long) h)
