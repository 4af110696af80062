-- The images that a pass holds: touching a qubit changes none, absorbing changes each as 01 says, held or not. Assumes nothing.
use Rattle.std.proofs.Math.Path.{◌≡◌, refl, sym, ap}
use Rattle.std.proofs.Common.{◌∙◌, ap₂}
use Rattle.std.specs.Prelude.{Bool, ◌||◌}
use Rattle.std.proofs.Math.Bool.{true, false, not}
use mathlib.Core.List.{List, [], ◌∷◌, ◌++◌, map}
use Prim.Native.Nat.{ℕ, zero, suc, ◌*◌, ◌<◌}
use native.Mathlib.Omega.{arith}
use Rattle.std.proofs.Math.Dec.{eqb}
use borrow.Author.Tests.{eqb-true, eqb-false}
use Rattle.pauli.specs.Word.{IsWord}
use Rattle.pauli.specs.Letter.{letter_at, single, other, acts}
use Rattle.pauli.specs.ProductLaws.{anticommutes_none}
use Rattle.pauli.specs.LetterLaws.{single_word}
use Rattle.model.specs.Lists.{when◌then◌else◌, any_of}
use Rattle.model.specs.Words.{Value, as_value, support}
use Rattle.model.specs.Clifford.{Images, absorb_image, absorb_images, is_held, own_images, Touched, touch, touch_all, absorb_word, image_of, letter_image}
use Rattle.theory.specs.Cases.{by_if, on_if, if_true, if_false}
use Rattle.theory.specs.Support.{Absent, absent_acts}
use Rattle.effect.specs.Apart.{symplectic_apart, single_apart}

-- X, Y or Z
pub data Letter : ℕ → Type 0 where
  is_x : Letter 1
  is_y : Letter 2
  is_z : Letter 3

pub letter_of : (c : ℕ) → 0 < c → c < 4 → Letter c
letter_of zero h b = absurd (omega arith)
letter_of (suc zero) h b = is_x
letter_of (suc (suc zero)) h b = is_y
letter_of (suc (suc (suc zero))) h b = is_z
letter_of (suc (suc (suc (suc c)))) h b = absurd (omega arith)

module _ (l : ℕ) where
  -- ---- touching

  own_image : (q : ℕ) {c : ℕ} → Letter c → image_of c (own_images l q) ≡ as_value (single l q c)
  unfolding image_of own_images
  own_image q is_x = refl
  own_image q is_y = refl
  own_image q is_z = refl

  letter_image_own : (held : List Images) (p q : ℕ) {c : ℕ} → Letter c
      → letter_image l (held ++ (own_images l p ∷ [])) q c ≡ letter_image l held q c
  unfolding letter_image
  letter_image_own [] p q {c} k =
      on_if (λ (v : Value). v ≡ as_value (single l q c)) (eqb (own_images l p).qubit q) (image_of c (own_images l p)) (as_value (single l q c))
      (λ e. own_image p k ∙ ap (λ (n : ℕ). as_value (single l n c)) (same e)) (λ e. refl)
    where
      same : eqb (own_images l p).qubit q ≡ true → p ≡ q
      same e = unfold own_images in (eqb-true p q (unfold own_images in e))
  letter_image_own (h ∷ held) p q {c} k =
      ap (λ (v : Value). when eqb h.qubit q then image_of c h else v) (letter_image_own held p q k)

  letter_image_touch : (t : Touched) (p q : ℕ) {c : ℕ} → Letter c → letter_image l (touch l t p).held q c ≡ letter_image l t.held q c
  unfolding touch
  letter_image_touch t p q {c} k =
      by_if (λ (x : Touched). letter_image l x.held q c ≡ letter_image l t.held q c) (is_held p t.held) t _ refl
      (letter_image_own t.held p q k)

  pub letter_image_touch_all : (t : Touched) (qs : List ℕ) (q : ℕ) {c : ℕ} → Letter c
      → letter_image l (touch_all l t qs).held q c ≡ letter_image l t.held q c
  unfolding touch_all
  letter_image_touch_all t [] q k = refl
  letter_image_touch_all t (p ∷ qs) q k = letter_image_touch_all (touch l t p) qs q k ∙ letter_image_touch t p q k

  -- ---- what is not held after touching was not touched

  or_false : (a b : Bool) → (a || b) ≡ false → (a ≡ false) × (b ≡ false)
  or_false true b e = (e, cc)
  or_false false b e = (refl, e)

  held_append : (q : ℕ) (hs : List Images) (h : Images) → is_held q (hs ++ (h ∷ [])) ≡ false → (is_held q hs ≡ false) × (eqb h.qubit q ≡ false)
  unfolding is_held any_of
  held_append q [] h e = (refl, (or_false (eqb h.qubit q) false e).0)
  held_append q (x ∷ hs) h e =
      let r = or_false (eqb x.qubit q) (any_of (λ (h : Images). eqb h.qubit q) (hs ++ (h ∷ []))) e in
      let s = held_append q hs h r.1 in
      (ap₂ (λ (a b : Bool). a || b) r.0 s.0, s.1)

  touch_absent : (t : Touched) (p q : ℕ) → is_held q (touch l t p).held ≡ false → (is_held q t.held ≡ false) × (p ≡ q → ⊥)
  unfolding touch
  touch_absent t p q =
      on_if (λ (x : Touched). is_held q x.held ≡ false → (is_held q t.held ≡ false) × (p ≡ q → ⊥)) (is_held p t.held) t _
      (λ e h. (
        h,
        λ s. let z : ◌≡◌ {A = Bool} true false = sym e ∙ ap (λ (n : ℕ). is_held n t.held) s ∙ h in let n : ◌≡◌
            {A = ℕ} 0 1 = cc in omega arith,
      ))
      (λ e h. let r = held_append q t.held (own_images l p) h in (r.0, eqb-false p q (unfold own_images in r.1)))

  touch_all_absent : (t : Touched) (qs : List ℕ) (q : ℕ) → is_held q (touch_all l t qs).held ≡ false → (is_held q t.held ≡ false) × Absent q qs
  unfolding touch_all
  touch_all_absent t [] q h = (h, tt)
  touch_all_absent t (p ∷ qs) q h =
      let r = touch_all_absent (touch l t p) qs q h in
      let s = touch_absent t p q r.0 in
      (s.0, (s.1, r.1))

  -- ---- a qubit that is not held has its letter for an image

  letter_image_free : (held : List Images) (q c : ℕ) → is_held q held ≡ false → letter_image l held q c ≡ as_value (single l q c)
  unfolding letter_image is_held any_of
  letter_image_free [] q c e = refl
  letter_image_free (h ∷ held) q c e =
      let r = or_false (eqb h.qubit q) (any_of (λ (h : Images). eqb h.qubit q) held) e in
      if_false (image_of c h) (letter_image l held q c) r.0 ∙ letter_image_free held q c r.1

  module _ (b : List ℕ) (k : ℕ) where
    absorbed_of : (c : ℕ) (h : Images) → image_of c (absorb_images l b k h) ≡ absorb_image l b k (image_of c h)
    unfolding image_of absorb_images
    absorbed_of zero h = refl
    absorbed_of (suc zero) h = refl
    absorbed_of (suc (suc zero)) h = refl
    absorbed_of (suc (suc (suc c))) h = refl

    absorbed_qubit : (h : Images) → (absorb_images l b k h).qubit ≡ h.qubit
    unfolding absorb_images
    absorbed_qubit h = refl

    -- held: its image changes
    letter_image_held : (held : List Images) (q c : ℕ) → is_held q held ≡ true
        → letter_image l (map (absorb_images l b k) held) q c ≡ absorb_image l b k (letter_image l held q c)
    unfolding letter_image is_held any_of
    letter_image_held [] q c e = cc
    letter_image_held (h ∷ held) q c e = go (eqb h.qubit q) refl (letter_image_held held q c) e
      where
        rest : Value
        rest = letter_image l (map (absorb_images l b k) held) q c

        test : eqb (absorb_images l b k h).qubit q ≡ eqb h.qubit q
        test = ap (λ (n : ℕ). eqb n q) (absorbed_qubit h)

        go : (d : Bool) → eqb h.qubit q ≡ d
            → (any_of (λ (h : Images). eqb h.qubit q) held ≡ true → rest ≡ absorb_image l b k (letter_image l held q c))
            → (d || any_of (λ (h : Images). eqb h.qubit q) held) ≡ true
            → (when eqb (absorb_images l b k h).qubit q then image_of c (absorb_images l b k h) else rest)
            ≡ absorb_image l b k (when eqb h.qubit q then image_of c h else letter_image l held q c)
        go true d ih e =
            if_true (image_of c (absorb_images l b k h)) rest (test ∙ d) ∙ absorbed_of c h
            ∙ ap (absorb_image l b k) (sym (if_true (image_of c h) (letter_image l held q c) d))
        go false d ih e =
            if_false (image_of c (absorb_images l b k h)) rest (test ∙ d) ∙ ih e
            ∙ ap (absorb_image l b k) (sym (if_false (image_of c h) (letter_image l held q c) d))

    held_same : (held : List Images) (q : ℕ) → is_held q (map (absorb_images l b k) held) ≡ is_held q held
    unfolding is_held any_of absorb_images
    held_same [] q = refl
    held_same (h ∷ held) q = ap (λ (r : Bool). eqb h.qubit q || r) (held_same held q)

    -- not held: b does not act there, and the letter stays
    letter_still : IsWord l b → (q c : ℕ) → q < 64 * l → acts l b q ≡ 0 → absorb_image l b k (as_value (single l q c)) ≡ as_value (single l q c)
    unfolding absorb_image
    letter_still wb q c d none =
        let apart = single_apart l b q c d (idle (letter_at l b q) none) in
        let quiet = anticommutes_none l b (single l q c) (symplectic_apart l b (single l q c) wb (single_word l q c d) apart) in
        if_true (as_value (single l q c)) _ (ap not quiet)
      where
        idle : (a : ℕ) → other a ≡ 0 → a ≡ 0
        idle zero e = refl
        idle (suc a) e = absurd (omega arith)

  -- "Absorbing angle k about B changes each held image P that anticommutes with B": so it does with every letter's image
  pub letter_image_absorb : (t : Touched) (b : List ℕ) (k : ℕ) → IsWord l b → (q c : ℕ) → q < 64 * l → Letter c
      → letter_image l (absorb_word l t b k).held q c ≡ absorb_image l b k (letter_image l t.held q c)
  unfolding absorb_word
  letter_image_absorb t b k wb q c d x = go (is_held q held) refl
    where
      held : List Images
      held = (touch_all l t (support l b)).held

      before : letter_image l held q c ≡ letter_image l t.held q c
      before = letter_image_touch_all t (support l b) q x

      go : (s : Bool) → is_held q held ≡ s → letter_image l (map (absorb_images l b k) held) q c ≡ absorb_image l b k (letter_image l t.held q c)
      go true e = letter_image_held b k held q c e ∙ ap (absorb_image l b k) before
      go false e =
          let free = letter_image_free held q c e in
          let none = absent_acts l b q d (touch_all_absent t (support l b) q e).1 in
          letter_image_free (map (absorb_images l b k) held) q c (held_same b k held q ∙ e)
          ∙ sym (letter_still b k wb q c d none) ∙ ap (absorb_image l b k) (sym free ∙ before)
