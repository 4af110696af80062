-- A word that commutes with B cannot tell a carried word from the same word carried after B was absorbed. Assumes nothing.
use Rattle.std.specs.Prelude.{◌≡◌, Bool, true}
use Rattle.std.proofs.Math.Path.{refl, ap}
use Rattle.std.proofs.Common.{sym, ◌∙◌, arith, eqb-true}
use Rattle.std.proofs.Math.Bool.{false}
use mathlib.Core.List.{List, [], ◌∷◌, ◌++◌, map}
use Prim.Native.Nat.{ℕ, zero, suc, ◌+◌, ◌*◌, ◌/◌, ◌%◌, ◌<◌}
use Rattle.std.proofs.Math.Dec.{eqb}
use Rattle.std.specs.Int.Bits.{bit_or}
use Rattle.bits.specs.Bit.{bit}
use Rattle.pauli.specs.Word.{x_word, z_word, symplectic}
use Rattle.pauli.specs.Letter.{x_bit, z_bit, letter_of, letter_at, single, other, acts}
use Rattle.pauli.specs.ProductLaws.{symplectic_xor, symplectic_lt}
use Rattle.pauli.specs.LetterLaws.{acts_bit}
use Rattle.model.specs.Lists.{when◌then◌else◌, numbers_from, is_odd}
use Rattle.model.specs.Words.{Value, as_value, scaled, multiply, set_bits, support}
use Rattle.model.specs.Clifford.{Images, absorb_image, absorb_images, own_images, Touched, touch, touch_all, absorb_word, image_of, letter_image}
use Rattle.model.specs.Clifford.{multiply_images}
use Rattle.model.specs.Clifford.{word_image}
use Rattle.theory.specs.Cases.{by_if, on_if}
use Rattle.theory.specs.Every.{Every, every_flatten}

-- what follows from a property of every element holds of every element
pub every_implies : {A : Type 0} (P Q : A → Type 0) → ((x : A) → P x → Q x) → (xs : List A) → Every P xs → Every Q xs
every_implies P Q f [] h = tt
every_implies P Q f (x ∷ xs) h = (f x h.0, every_implies P Q f xs h.1)

-- ---- on its support a word has letters other than I

-- x is q + t, and bit t of n is set
abbrev SetBit : ℕ → ℕ → ℕ → ℕ → Type 0
SetBit k q n x = (t : ℕ) × (t < k) × (x ≡ q + t) × (bit n t ≡ 1)

set_bits_set : (k q n : ℕ) → Every (SetBit k q n) (set_bits k q n)
unfolding set_bits bit
set_bits_set zero q n = tt
set_bits_set (suc k) q zero = tt
set_bits_set (suc k) q (suc n) =
    let rest : Every (SetBit (suc k) q (suc n)) (set_bits k (suc q) (suc n / 2)) =
    every_implies (SetBit k (suc q) (suc n / 2)) (SetBit (suc k) q (suc n))
    (λ x h. (suc h.0, omega (arith, h.1), omega (arith, h.2), h.3)) (set_bits k (suc q) (suc n / 2)) (set_bits_set k (suc q) (suc n / 2)) in
    on_if (Every (SetBit (suc k) q (suc n))) (is_odd (suc n)) (q ∷ set_bits k (suc q) (suc n / 2)) _
    (λ e. ((0, omega arith, omega arith, eqb-true (suc n % 2) 1 e), rest)) (λ e. rest)

abbrev ActsAt : ℕ → List ℕ → ℕ → Type 0
ActsAt l w q = acts l w q ≡ 1

-- every qubit of a word's support is acted on
pub support_acts : (l : ℕ) (w : List ℕ) → Every (λ q. acts l w q ≡ 1) (support l w)
unfolding support
support_acts l w = every_flatten (ActsAt l w) (map planes (numbers_from 0 l)) (words (numbers_from 0 l))
  where
    planes : ℕ → List ℕ
    planes j = set_bits 64 (64 * j) (bit_or (x_word w j) (z_word l w j))

    words : (js : List ℕ) → Every (Every (ActsAt l w)) (map planes js)
    words [] = tt
    words (j ∷ js) =
        let n = bit_or (x_word w j) (z_word l w j) in (
          every_implies (SetBit 64 (64 * j) n) (ActsAt l w)
              (λ x h. rw h.2 (acts_bit l w j h.0 h.1 ∙ h.3)) (set_bits 64 (64 * j) n) (set_bits_set 64 (64 * j) n),
          words js,
        )

-- X, Y or Z
pub data Proper : ℕ → Type 0 where
  x : Proper 1
  y : Proper 2
  z : Proper 3

letter_of_proper : (a b : ℕ) → other (letter_of a b) ≡ 1 → Proper (letter_of a b)
letter_of_proper zero zero h = absurd (omega arith)
letter_of_proper zero (suc b) h = z
letter_of_proper (suc a) zero h = x
letter_of_proper (suc a) (suc b) h = y

-- ---- touching changes no image of X, Y or Z

own_image : (l q : ℕ) {c : ℕ} → Proper c → image_of c (own_images l q) ≡ as_value (single l q c)
unfolding image_of own_images
own_image l q x = refl
own_image l q y = refl
own_image l q z = refl

module _ (l : ℕ) where
  touched_letter : (held : List Images) (t q : ℕ) {c : ℕ} → Proper c → letter_image l (held ++ (own_images l t ∷ [])) q c ≡ letter_image l held q c
  unfolding letter_image
  touched_letter [] t q {c} h =
      on_if (λ (v : Value). v ≡ as_value (single l q c)) (eqb (own_images l t).qubit q) (image_of c (own_images l t)) (as_value (single l q c))
      (λ e. own_image l t h ∙ ap (λ (i : ℕ). as_value (single l i c)) (unfold own_images in (eqb-true t q e))) (λ e. refl)
  touched_letter (g ∷ held) t q {c} h =
      ap (λ (v : Value). when eqb g.qubit q then image_of c g else v) (touched_letter held t q h)

  touch_letter : (s : Touched) (t q : ℕ) {c : ℕ} → Proper c → letter_image l (touch l s t).held q c ≡ letter_image l s.held q c
  unfolding touch
  touch_letter s t q {c} h =
      by_if (λ (u : Touched). letter_image l u.held q c ≡ letter_image l s.held q c) _ _ _ refl (touched_letter s.held t q h)

  touch_all_letter : (s : Touched) (ts : List ℕ) (q : ℕ) {c : ℕ} → Proper c
      → letter_image l (touch_all l s ts).held q c ≡ letter_image l s.held q c
  unfolding touch_all
  touch_all_letter s [] q h = refl
  touch_all_letter s (t ∷ ts) q h = touch_all_letter (touch l s t) ts q h ∙ touch_letter s t q h

  -- ---- absorbing: v commutes with b

  module _ (v b : List ℕ) (commutes : symplectic l v b ≡ 0) (k : ℕ) where
    absorb_image_same : (p : Value) → symplectic l v (absorb_image l b k p).word ≡ symplectic l v p.word
    unfolding absorb_image scaled multiply
    absorb_image_same p =
        by_if (λ (q : Value). symplectic l v q.word ≡ symplectic l v p.word) _ _ _ refl
        (by_if (λ (q : Value). symplectic l v q.word ≡ symplectic l v p.word) _ _ _ refl
        (omega (arith, symplectic_xor l v b p.word, symplectic_lt l v p.word)))

    image_of_same : (c : ℕ) (h : Images) → symplectic l v (image_of c (absorb_images l b k h)).word ≡ symplectic l v (image_of c h).word
    unfolding image_of absorb_images
    image_of_same zero h = absorb_image_same h.x
    image_of_same (suc zero) h = absorb_image_same h.x
    image_of_same (suc (suc zero)) h = absorb_image_same h.y
    image_of_same (suc (suc (suc c))) h = absorb_image_same h.z

    letter_image_same : (held : List Images) (q c : ℕ)
        → symplectic l v (letter_image l (map (absorb_images l b k) held) q c).word ≡ symplectic l v (letter_image l held q c).word
    unfolding letter_image
    letter_image_same [] q c = refl
    letter_image_same (h ∷ held) q c = go (eqb h.qubit q) refl (letter_image_same held q c)
      where
        later : Value
        later = letter_image l (map (absorb_images l b k) held) q c

        go : (t : Bool) → eqb h.qubit q ≡ t → symplectic l v later.word ≡ symplectic l v (letter_image l held q c).word
            → symplectic l v (when eqb (absorb_images l b k h).qubit q then image_of c (absorb_images l b k h) else later).word
            ≡ symplectic l v (when eqb h.qubit q then image_of c h else letter_image l held q c).word
        go true e ih = unfold absorb_images when◌then◌else◌ in (rw e (image_of_same c h))
        go false e ih = unfold absorb_images when◌then◌else◌ in (rw e ih)

  -- ---- carrying: the images of the letters multiply

  multiply_same : (v : List ℕ) (p p' q q' : Value) → symplectic l v p'.word ≡ symplectic l v p.word
      → symplectic l v q'.word ≡ symplectic l v q.word
      → symplectic l v (multiply l p' q').word ≡ symplectic l v (multiply l p q).word
  unfolding multiply
  multiply_same v p p' q q' e f =
      symplectic_xor l v p'.word q'.word ∙ rw (e, f) (sym (symplectic_xor l v p.word q.word))

  module _ (v w : List ℕ) (held held' : List Images)
      (same : (q : ℕ) → Proper (letter_at l w q)
      → symplectic l v (letter_image l held' q (letter_at l w q)).word ≡ symplectic l v (letter_image l held q (letter_at l w q)).word) where
    multiply_images_same : (qs : List ℕ) (p p' : Value) → Every (ActsAt l w) qs → symplectic l v p'.word ≡ symplectic l v p.word
        → symplectic l v (multiply_images l held' w p' qs).word ≡ symplectic l v (multiply_images l held w p qs).word
    unfolding multiply_images
    multiply_images_same [] p p' h e = e
    multiply_images_same (q ∷ qs) p p' h e =
        let i = letter_image l held q (letter_at l w q) in
        let i' = letter_image l held' q (letter_at l w q) in
        let f : symplectic l v i'.word ≡ symplectic l v i.word = same q (letter_of_proper (x_bit w q) (z_bit l w q) h.0) in
        multiply_images_same qs (multiply l p i) (multiply l p' i') h.1 (multiply_same v p p' i i' e f)

  -- a word that commutes with b commutes with the image of w after b was absorbed exactly if it did before
  pub absorbed_image : (v b : List ℕ) → symplectic l v b ≡ 0 → (k : ℕ) (t : Touched) (w : List ℕ)
      → symplectic l v (word_image l (absorb_word l t b k).held w).word ≡ symplectic l v (word_image l t.held w).word
  unfolding word_image
  absorbed_image v b commutes k t w =
      multiply_images_same v w t.held (absorb_word l t b k).held
      (λ q h. unfold absorb_word in (letter_image_same v b commutes k (touch_all l t (support l b)).held q (letter_at l w q)
      ∙ ap (λ (u : Value). symplectic l v u.word) (touch_all_letter t (support l b) q h)))
      (support l w) _ _ (support_acts l w) refl
