-- The image of a product is the product of the images, with their phases. Assumes nothing.
use Rattle.std.specs.Prelude.{◌≡◌, [], ◌∷◌, Bool, true, false}
use Rattle.std.proofs.Math.Path.{refl, ap}
use Rattle.std.proofs.Common.{sym, ◌∙◌, ap₂}
use Rattle.groups.specs.Normaliser.{at, ∅, ◌⊞◌, ⊟◌, ab}
use Rattle.groups.specs.Abelian.{neg_neg}
use Rattle.groups.specs.Eighth.{Eighth, e0, e1, e2, e3, e4, e5, e6, e7}
use Rattle.effect.specs.Phase.{Quarter, q0, q1, q3, Quarterᵃ, odd, neg4, xor, ◌⊞₄◌, odd_neg, even_self, odd_twice}
use Rattle.effect.specs.Words.{Setting}
use Rattle.effect.specs.Effect.{pmul}
use Rattle.effect.specs.Conjugation.{conj, conj_at}

module _ (H : Setting) where
  open H use {words as Ws}
  open Ws use {W, ◌⊕◌, ph, unit, ⊕-assoc, ⊕-comm, ⊕-cancel, ph_swap, ph_cancel, ph_mul, ph_odd, ph_unit}

  infixl 65 ◌⊕◌
  pub odd_swap : (P Q : W) → odd (ph Q P) ≡ odd (ph P Q)
  odd_swap P Q = ap odd (ph_swap P Q) ∙ odd_neg (ph P Q)

  odd_right : (B P Q : W) → odd (ph B (P ⊕ Q)) ≡ xor (odd (ph B P)) (odd (ph B Q))
  odd_right B P Q = odd_swap (P ⊕ Q) B ∙ ph_odd P Q B ∙ ap₂ xor (odd_swap B P) (odd_swap B Q)

  left_comm : (B P Q : W) → B ⊕ (P ⊕ Q) ≡ P ⊕ (B ⊕ Q)
  left_comm B P Q = sym (⊕-assoc B P Q) ∙ ap (λ X. X ⊕ Q) (⊕-comm B P) ∙ ⊕-assoc P B Q

  both_cancel : (B P Q : W) → (B ⊕ P) ⊕ (B ⊕ Q) ≡ P ⊕ Q
  both_cancel B P Q = left_comm (B ⊕ P) B Q ∙ sym (⊕-assoc B (B ⊕ P) Q) ∙ ap (λ X. X ⊕ Q) (⊕-cancel B P)

  -- ---- i^c B P for odd c: P moves, Q moves, or both

  module _ (c : Quarter) (oc : odd c ≡ true) (B P Q : W) where
    left : ((c ⊞₄ ph B (P ⊕ Q)) ⊞₄ ph P Q, B ⊕ (P ⊕ Q)) ≡ pmul H (c ⊞₄ ph B P, B ⊕ P) (q0, Q)
    left = λ i. (e i, sym (⊕-assoc B P Q) i)
      where
        e : (c ⊞₄ ph B (P ⊕ Q)) ⊞₄ ph P Q ≡ ((c ⊞₄ ph B P) ⊞₄ q0) ⊞₄ ph (B ⊕ P) Q
        e =
            ap (λ t. (c ⊞₄ t) ⊞₄ ph P Q) (ph_mul B P Q)
            ∙ ab Quarterᵃ (c ∷ ph B P ∷ ph (B ⊕ P) Q ∷ ph P Q ∷ []) ((at 0 ⊞ ((at 1 ⊞ at 2) ⊞ ⊟ at 3)) ⊞ at 3)
            (((at 0 ⊞ at 1) ⊞ ∅) ⊞ at 2) refl

    right : odd (ph B P) ≡ false → ((c ⊞₄ ph B (P ⊕ Q)) ⊞₄ ph P Q, B ⊕ (P ⊕ Q)) ≡ pmul H (q0, P) (c ⊞₄ ph B Q, B ⊕ Q)
    right h = λ i. (e i, left_comm B P Q i)
      where
        other : ph P (B ⊕ Q) ≡ (ph B P ⊞₄ ph (B ⊕ P) Q) ⊞₄ neg4 (ph B Q)
        other = ph_mul P B Q ∙ ap₂ (λ s X. (s ⊞₄ ph X Q) ⊞₄ neg4 (ph B Q)) (ph_swap B P ∙ even_self (ph B P) h) (⊕-comm P B)

        e : (c ⊞₄ ph B (P ⊕ Q)) ⊞₄ ph P Q ≡ (q0 ⊞₄ (c ⊞₄ ph B Q)) ⊞₄ ph P (B ⊕ Q)
        e =
            ap (λ t. (c ⊞₄ t) ⊞₄ ph P Q) (ph_mul B P Q)
            ∙ ab Quarterᵃ (c ∷ ph B P ∷ ph (B ⊕ P) Q ∷ ph P Q ∷ ph B Q ∷ [])
            ((at 0 ⊞ ((at 1 ⊞ at 2) ⊞ ⊟ at 3)) ⊞ at 3) ((∅ ⊞ (at 0 ⊞ at 4)) ⊞ ((at 1 ⊞ at 2) ⊞ ⊟ at 4)) refl
            ∙ sym (ap (λ t. (q0 ⊞₄ (c ⊞₄ ph B Q)) ⊞₄ t) other)

    twice : odd (ph B P) ≡ true → (q0 ⊞₄ ph P Q, P ⊕ Q) ≡ pmul H (c ⊞₄ ph B P, B ⊕ P) (c ⊞₄ ph B Q, B ⊕ Q)
    twice h = λ i. (e i, sym (both_cancel B P Q) i)
      where
        back : ph (B ⊕ P) B ≡ ph B P
        back = ph_swap B (B ⊕ P) ∙ ap neg4 (ph_cancel B P) ∙ neg_neg Quarterᵃ (ph B P)

        inner : ph (B ⊕ P) (B ⊕ Q) ≡ (ph B P ⊞₄ ph P Q) ⊞₄ neg4 (ph B Q)
        inner =
            ph_mul (B ⊕ P) B Q ∙ ap₂ (λ s X. (s ⊞₄ ph X Q) ⊞₄ neg4 (ph B Q)) back (⊕-comm (B ⊕ P) B ∙ ⊕-cancel B P)

        e : q0 ⊞₄ ph P Q ≡ ((c ⊞₄ ph B P) ⊞₄ (c ⊞₄ ph B Q)) ⊞₄ ph (B ⊕ P) (B ⊕ Q)
        e =
            sym (ap (λ t. ((c ⊞₄ ph B P) ⊞₄ (c ⊞₄ ph B Q)) ⊞₄ t) inner
            ∙ ab Quarterᵃ (c ∷ ph B P ∷ ph B Q ∷ ph P Q ∷ [])
            (((at 0 ⊞ at 1) ⊞ (at 0 ⊞ at 2)) ⊞ ((at 1 ⊞ at 3) ⊞ ⊟ at 2)) (((at 0 ⊞ at 0) ⊞ (at 1 ⊞ at 1)) ⊞ at 3) refl
            ∙ ap₂ (λ s t. (s ⊞₄ t) ⊞₄ ph P Q) (odd_twice c oc) (odd_twice (ph B P) h))

  -- ---- all cases

  conj_at_mul : (b d : Bool) (e : Eighth) (B P Q : W) → odd (ph B P) ≡ b → odd (ph B Q) ≡ d
      → ((conj_at H (xor b d) e B (P ⊕ Q)).0 ⊞₄ ph P Q, (conj_at H (xor b d) e B (P ⊕ Q)).1) ≡ pmul H (conj_at H b e B P) (conj_at H d e B Q)
  conj_at_mul false false e B P Q h k = refl
  conj_at_mul true false e0 B P Q h k = refl
  conj_at_mul true false e1 B P Q h k = refl
  conj_at_mul true false e2 B P Q h k = left q1 refl B P Q
  conj_at_mul true false e3 B P Q h k = refl
  conj_at_mul true false e4 B P Q h k = refl
  conj_at_mul true false e5 B P Q h k = refl
  conj_at_mul true false e6 B P Q h k = left q3 refl B P Q
  conj_at_mul true false e7 B P Q h k = refl
  conj_at_mul false true e0 B P Q h k = refl
  conj_at_mul false true e1 B P Q h k = refl
  conj_at_mul false true e2 B P Q h k = right q1 refl B P Q h
  conj_at_mul false true e3 B P Q h k = refl
  conj_at_mul false true e4 B P Q h k = refl
  conj_at_mul false true e5 B P Q h k = refl
  conj_at_mul false true e6 B P Q h k = right q3 refl B P Q h
  conj_at_mul false true e7 B P Q h k = refl
  conj_at_mul true true e0 B P Q h k = refl
  conj_at_mul true true e1 B P Q h k = refl
  conj_at_mul true true e2 B P Q h k = twice q1 refl B P Q h
  conj_at_mul true true e3 B P Q h k = refl
  conj_at_mul true true e4 B P Q h k = refl
  conj_at_mul true true e5 B P Q h k = refl
  conj_at_mul true true e6 B P Q h k = twice q3 refl B P Q h
  conj_at_mul true true e7 B P Q h k = refl

  pub conj_mul : (e : Eighth) (B P Q : W) → ((conj H e B (P ⊕ Q)).0 ⊞₄ ph P Q, (conj H e B (P ⊕ Q)).1) ≡ pmul H (conj H e B P) (conj H e B Q)
  unfolding conj
  conj_mul e B P Q =
      ap (λ b. ((conj_at H b e B (P ⊕ Q)).0 ⊞₄ ph P Q, (conj_at H b e B (P ⊕ Q)).1)) (odd_right B P Q)
      ∙ conj_at_mul (odd (ph B P)) (odd (ph B Q)) e B P Q refl refl

  -- ---- images of words with a phase

  unfoldable pub image : Eighth → W → Quarter × W → Quarter × W
  image e B a = (a.0 ⊞₄ (conj H e B a.1).0, (conj H e B a.1).1)

  -- a map of words that multiplies, taken to words with a phase, multiplies
  pub phased_mul : (m : W → Quarter × W) → ((P Q : W) → ((m (P ⊕ Q)).0 ⊞₄ ph P Q, (m (P ⊕ Q)).1) ≡ pmul H (m P) (m Q)) → (a b : Quarter × W)
      → ((a.0 ⊞₄ b.0 ⊞₄ ph a.1 b.1) ⊞₄ (m (a.1 ⊕ b.1)).0, (m (a.1 ⊕ b.1)).1)
      ≡ pmul H (a.0 ⊞₄ (m a.1).0, (m a.1).1) (b.0 ⊞₄ (m b.1).0, (m b.1).1)
  phased_mul m mul a b =
      (λ i. (first i, (m (a.1 ⊕ b.1)).1))
      ∙ (λ i. ((a.0 ⊞₄ b.0) ⊞₄ (mul a.1 b.1 i).0, (mul a.1 b.1 i).1))
      ∙ (λ i. (last i, (m a.1).1 ⊕ (m b.1).1))
    where
      u : Quarter
      u = ph a.1 b.1

      v : Quarter
      v = ph (m a.1).1 (m b.1).1

      first : ((a.0 ⊞₄ b.0) ⊞₄ u) ⊞₄ (m (a.1 ⊕ b.1)).0 ≡ (a.0 ⊞₄ b.0) ⊞₄ ((m (a.1 ⊕ b.1)).0 ⊞₄ u)
      first =
          ab Quarterᵃ (a.0 ∷ b.0 ∷ u ∷ (m (a.1 ⊕ b.1)).0 ∷ []) (((at 0 ⊞ at 1) ⊞ at 2) ⊞ at 3) ((at 0 ⊞ at 1) ⊞ (at 3 ⊞ at 2)) refl

      last : (a.0 ⊞₄ b.0) ⊞₄ (((m a.1).0 ⊞₄ (m b.1).0) ⊞₄ v) ≡ ((a.0 ⊞₄ (m a.1).0) ⊞₄ (b.0 ⊞₄ (m b.1).0)) ⊞₄ v
      last =
          ab Quarterᵃ (a.0 ∷ b.0 ∷ (m a.1).0 ∷ (m b.1).0 ∷ v ∷ [])
          ((at 0 ⊞ at 1) ⊞ ((at 2 ⊞ at 3) ⊞ at 4)) (((at 0 ⊞ at 2) ⊞ (at 1 ⊞ at 3)) ⊞ at 4) refl

  pub image_mul : (e : Eighth) (B : W) (a b : Quarter × W) → image e B (pmul H a b) ≡ pmul H (image e B a) (image e B b)
  unfolding image
  image_mul e B a b = phased_mul (conj H e B) (conj_mul e B) a b

  pub image_unit : (e : Eighth) (B : W) → image e B (q0, unit) ≡ (q0, unit)
  unfolding image conj
  image_unit e B =
      ap (λ b. (q0 ⊞₄ (conj_at H b e B unit).0, (conj_at H b e B unit).1)) (ap odd (ph_swap unit B ∙ ap neg4 (ph_unit B)))
