-- An even rotation carries each operation that it passes: the operation about P behind it is the operation about P's image. Assumes nothing.
use Rattle.std.specs.Prelude.{◌≡◌, [], ◌∷◌, Bool, true, false, pos}
use Rattle.std.proofs.Math.Path.{refl, ap, fun_ext}
use Rattle.std.proofs.Common.{sym, ◌∙◌, ap₂}
use Rattle.groups.specs.Abelian.{Ab, neg_of_add, IsAdd, map_neg, dbl}
use Rattle.groups.specs.Normaliser.{halve}
use Rattle.groups.specs.Root.{Root, at, ∅, ◌⊞◌, ⊟◌, lin}
use Rattle.groups.specs.Eighth.{Eighth, e0, e1, e2, e3, e4, e5, e6, e7, flip, is_even_e}
use Rattle.groups.proofs.Real.{IsReal, rot, rot_real, comp_real}
use Rattle.groups.proofs.Rules as Rules
use Rattle.effect.specs.Phase.{Quarter, q0, q1, q2, q3, odd, neg4, odd_add, odd_neg, Sgn, minus, ◌·ˢ◌, sign_comm, opposite_left, σ, τ}
use Rattle.effect.specs.Phase.{σ-back, τ-square, τ-one, τ-three, xor}
use Rattle.effect.specs.Words.{Setting}
use Rattle.effect.specs.Signs.{act, act_mul, act_add, act_map}
use Rattle.effect.specs.Effect.{sums, sums_root, times, J, A, rotate, measure, signed, given}
use Rattle.effect.proofs.Generators.{times_add, times_real, J_cube, Bracket, times_comm}
use Rattle.effect.proofs.Operators.{rotate_is, measure_is, sgn, sgn_real, sgn_map, sgn_mul}
use Rattle.effect.specs.Conjugation as Passed

module _ (H : Setting) where
  open H use {words as Ws, coeff as K}
  open Ws use {W, ◌⊕◌, ph, ⊕-cancel, ph_cancel}

  infixl 65 ◌⊕◌
  abbrev conj_at : Bool → Eighth → W → W → Quarter × W
  conj_at = Passed.conj_at H

  abbrev conj : Eighth → W → W → Quarter × W
  conj = Passed.conj H

  abbrev turned : Quarter → Eighth → Eighth
  turned = Passed.turned H

  abbrev S : Ab
  S = sums H

  abbrev Sr : Root S
  Sr = sums_root H

  open S use {C, add as ◌⊹◌, neg}

  infixl 60 ◌⊹◌
  -- ---- what a rotation does to J and A of another word

  -- the rotation by e about B, and by a quarter
  abbrev about : Eighth → W → C → C
  about e B = rot S Sr e (J H B)

  about_add : (e : Eighth) (B : W) → IsAdd S (about e B)
  about_add e B = (rot_real S Sr e (J H B) (times_real H σ B)).0

  module _ (χ : Quarter → Sgn) (br : Bracket H χ) (B P : W) where
    -- B and P commute: any rotation passes
    still : odd (ph B P) ≡ false → (e : Eighth) (f : C) → about e B (times H χ P f) ≡ times H χ P (about e B f)
    still h e f =
        sym (Rules.carry S Sr (times H χ P) (times_real H χ P) (J H B) (J H B) (λ g. sym (times_comm H χ br B P h g)) e f)

    -- they anticommute: a quarter turn takes P to i B P
    moved2 : odd (ph B P) ≡ true → (f : C) → about e2 B (times H χ P f) ≡ sgn H (σ (ph B P)) (times H χ (B ⊕ P) (about e2 B f))
    moved2 h f =
        Rules.quarter S Sr (J H B) (times H χ P) image (times_real H σ B) (times_add H χ P)
        (comp_real S Sr (sgn H s) (times H χ (B ⊕ P)) (sgn_real H s) (times_real H χ (B ⊕ P))).0
        (J_cube H B) (λ g. fun_ext (br B P g)) (λ g. fun_ext (second g)) f
      where
        s : Sgn
        s = σ (ph B P)

        image : C → C
        image g = sgn H s (times H χ (B ⊕ P) g)

        second : (g : C) (R : W) → K.add (J H B (image g) R) (K.neg (image (J H B g) R)) ≡ K.neg (times H χ P g R)
        second g R =
            ap₂ K.add (act_map K (act K (σ (ph B (B ⊕ R)))) (act_add K (σ (ph B (B ⊕ R)))) s (t g (B ⊕ R)))
            (sym (map_neg K (act K s) (act_add K s) (t (J H B g) R)))
            ∙ sym (act_add K s (J H B (t g) R) (K.neg (t (J H B g) R)))
            ∙ ap (act K s) (br B (B ⊕ P) g R) ∙ act_mul K s (σ (ph B (B ⊕ P))) (times H χ (B ⊕ (B ⊕ P)) g R)
            ∙ ap₂ (λ q X. act K (s ·ˢ σ q) (times H χ X g R)) (ph_cancel B P) (⊕-cancel B P)
            ∙ ap (λ u. act K u (times H χ P g R)) (σ-back (ph B P) h)
          where
            t : C → C
            t = times H χ (B ⊕ P)

  module _ (χ : Quarter → Sgn) (br : Bracket H χ) (B P : W) (h : odd (ph B P) ≡ true) where
    abbrev s : Sgn
    s = σ (ph B P)

    -- two quarter turns
    moved4 : (f : C) → about e4 B (times H χ P f) ≡ sgn H minus (times H χ P (about e4 B f))
    moved4 f =
        halve S Sr.torsion (about e4 B (times H χ P f)) (sgn H minus (times H χ P (about e4 B f)))
        (sym (two (times H χ P f)) ∙ there ∙ ap₂ (λ t y. sgn H t (times H χ P y)) (σ-back (ph B P) h) (two f)
        ∙ ap (sgn H minus) (times_add H χ P (about e4 B f) (about e4 B f))
        ∙ neg_of_add S (times H χ P (about e4 B f)) (times H χ P (about e4 B f)))
      where
        two : (g : C) → about e2 B (about e2 B g) ≡ dbl S (about e4 B g)
        two g = Rules.merge S Sr (J H B) (times_real H σ B) (J_cube H B) (pos 2) (pos 2) g

        g2 : C
        g2 = about e2 B (about e2 B f)

        there : about e2 B (about e2 B (times H χ P f)) ≡ sgn H (s ·ˢ σ (neg4 (ph B P))) (times H χ P g2)
        there =
            ap (about e2 B) (moved2 χ br B P h f) ∙ sgn_map H (about e2 B) (about_add e2 B) s (times H χ (B ⊕ P) (about e2 B f))
            ∙ ap (sgn H s) (moved2 χ br B (B ⊕ P) (ap odd (ph_cancel B P) ∙ odd_neg (ph B P) ∙ h) (about e2 B f))
            ∙ sgn_mul H s (σ (ph B (B ⊕ P))) (times H χ (B ⊕ (B ⊕ P)) g2)
            ∙ ap₂ (λ q X. sgn H (s ·ˢ σ q) (times H χ X g2)) (ph_cancel B P) (⊕-cancel B P)

    -- three quarter turns
    moved6 : (f : C) → about e6 B (times H χ P f) ≡ sgn H (minus ·ˢ s) (times H χ (B ⊕ P) (about e6 B f))
    moved6 f =
        halve S Sr.torsion (about e6 B (times H χ P f)) (sgn H (minus ·ˢ s) (times H χ (B ⊕ P) (about e6 B f)))
        (sym (three (times H χ P f)) ∙ there ∙ ap (λ y. sgn H (minus ·ˢ s) (times H χ (B ⊕ P) y)) (three f)
        ∙ ap (sgn H (minus ·ˢ s)) (times_add H χ (B ⊕ P) (about e6 B f) (about e6 B f))
        ∙ (sgn_real H (minus ·ˢ s)).0 (times H χ (B ⊕ P) (about e6 B f)) (times H χ (B ⊕ P) (about e6 B f)))
      where
        three : (g : C) → about e2 B (about e4 B g) ≡ dbl S (about e6 B g)
        three g = Rules.merge S Sr (J H B) (times_real H σ B) (J_cube H B) (pos 2) (pos 4) g

        there : about e2 B (about e4 B (times H χ P f)) ≡ sgn H (minus ·ˢ s) (times H χ (B ⊕ P) (about e2 B (about e4 B f)))
        there =
            ap (about e2 B) (moved4 f) ∙ sgn_map H (about e2 B) (about_add e2 B) minus (times H χ P (about e4 B f))
            ∙ ap (sgn H minus) (moved2 χ br B P h (about e4 B f))
            ∙ sgn_mul H minus s (times H χ (B ⊕ P) (about e2 B (about e4 B f)))

    moved0 : (f : C) → about e0 B (times H χ P f) ≡ times H χ P (about e0 B f)
    moved0 f = none (times H χ P f) ∙ sym (ap (times H χ P) (none f) ∙ times_add H χ P f f)
      where
        none : (g : C) → about e0 B g ≡ dbl S g
        none g =
            lin S Sr (g ∷ J H B (J H B g) ∷ []) ((((at 0 ⊞ at 1) ⊞ (at 0 ⊞ at 1)) ⊞ ⊟ (at 1 ⊞ at 1)) ⊞ ∅) (at 0 ⊞ at 0) refl

  carried : (χ : Quarter → Sgn) → Bracket H χ → (b : Bool) (e : Eighth) (B P : W) → odd (ph B P) ≡ b → is_even_e e ≡ true → (f : C)
      → about e B (times H χ P f) ≡ sgn H (τ (conj_at b e B P).0) (times H χ (conj_at b e B P).1 (about e B f))
  carried χ br false e B P h k f = still χ br B P h e f
  carried χ br true e0 B P h k f = moved0 χ br B P h f
  carried χ br true e1 B P h k f = cc
  carried χ br true e2 B P h k f = moved2 χ br B P h f ∙ ap (λ s. sgn H s (times H χ (B ⊕ P) (about e2 B f))) (sym (τ-one (ph B P)))
  carried χ br true e3 B P h k f = cc
  carried χ br true e4 B P h k f = moved4 χ br B P h f
  carried χ br true e5 B P h k f = cc
  carried χ br true e6 B P h k f = moved6 χ br B P h f ∙ ap (λ s. sgn H s (times H χ (B ⊕ P) (about e6 B f))) (sym (τ-three (ph B P)))
  carried χ br true e7 B P h k f = cc

  pub rotate_times : (χ : Quarter → Sgn) → Bracket H χ → (e : Eighth) (B P : W) → is_even_e e ≡ true → (f : C)
      → rotate H e B (times H χ P f) ≡ sgn H (τ (conj e B P).0) (times H χ (conj e B P).1 (rotate H e B f))
  unfolding Passed.conj
  rotate_times χ br e B P k f =
      rotate_is H e B (times H χ P f) ∙ carried χ br (odd (ph B P)) e B P refl k f
      ∙ ap (λ y. sgn H (τ (conj e B P).0) (times H χ (conj e B P).1 y)) (sym (rotate_is H e B f))

  -- ---- an image is Hermitian

  conj_at_even : (b : Bool) (e : Eighth) (B P : W) → odd (ph B P) ≡ b → odd (conj_at b e B P).0 ≡ false
  conj_at_even false e B P h = refl
  conj_at_even true e0 B P h = refl
  conj_at_even true e1 B P h = refl
  conj_at_even true e2 B P h = odd_add q1 (ph B P) ∙ ap (xor true) h
  conj_at_even true e3 B P h = refl
  conj_at_even true e4 B P h = refl
  conj_at_even true e5 B P h = refl
  conj_at_even true e6 B P h = odd_add q3 (ph B P) ∙ ap (xor true) h
  conj_at_even true e7 B P h = refl

  pub conj_even : (e : Eighth) (B P : W) → odd (conj e B P).0 ≡ false
  unfolding Passed.conj
  conj_even e B P = conj_at_even (odd (ph B P)) e B P refl

  -- ---- a real map that carries J P and A P carries the operations about P

  -- Φ takes χ P to i^t χ P'
  abbrev pub Carries : (C → C) → (Quarter → Sgn) → W → Quarter → W → Type 0
  Carries Φ χ P t P' = (f : C) → Φ (times H χ P f) ≡ sgn H (τ t) (times H χ P' (Φ f))

  module _ (Φ : C → C) (F : IsReal S Sr Φ) (P P' : W) where
    pub pass_rotate : (t : Quarter) → odd t ≡ false → Carries Φ σ P t P' → (k : Eighth) (f : C)
        → Φ (rotate H k P f) ≡ rotate H (turned t k) P' (Φ f)
    pass_rotate q0 h c k f =
        ap Φ (rotate_is H k P f) ∙ Rules.carry S Sr Φ F (J H P) (J H P') c k f ∙ sym (rotate_is H k P' (Φ f))
    pass_rotate q1 h c k f = cc
    pass_rotate q2 h c k f =
        ap Φ (rotate_is H k P f) ∙ Rules.carry S Sr Φ F (J H P) (λ g. neg (J H P' g)) c k f
        ∙ Rules.rot_flip S Sr (J H P') (times_real H σ P') k (Φ f) ∙ sym (rotate_is H (flip k) P' (Φ f))
    pass_rotate q3 h c k f = cc

    pub pass_given : (b : Bool) (t : Quarter) → odd t ≡ false → Carries Φ σ P t P' → (k : Eighth) (f : C)
        → Φ (given H b k P f) ≡ given H b (turned t k) P' (Φ f)
    pass_given true t h c k f = pass_rotate t h c k f
    pass_given false t h c k f = F.0 f f

    pub pass_measure : (t : Quarter) → odd t ≡ false → Carries Φ τ P t P' → (s : Sgn) (f : C)
        → Φ (measure H s P f) ≡ measure H (s ·ˢ τ t) P' (Φ f)
    pass_measure t h c s f =
        ap Φ (measure_is H s P f) ∙ F.0 (A H P (A H P f)) (sgn H s (A H P f)) ∙ ap₂ ◌⊹◌ twice once
        ∙ sym (measure_is H (s ·ˢ τ t) P' (Φ f))
      where
        g : C
        g = A H P' (Φ f)

        twice : Φ (A H P (A H P f)) ≡ A H P' g
        twice =
            c (A H P f) ∙ ap (λ y. sgn H (τ t) (A H P' y)) (c f)
            ∙ ap (sgn H (τ t)) (sgn_map H (A H P') (times_add H τ P') (τ t) g)
            ∙ sgn_mul H (τ t) (τ t) (A H P' g) ∙ ap (λ z. sgn H z (A H P' g)) (τ-square t h)

        once : Φ (sgn H s (A H P f)) ≡ sgn H (s ·ˢ τ t) g
        once = sgn_map H Φ F.0 s (A H P f) ∙ ap (sgn H s) (c f) ∙ sgn_mul H s (τ t) g

  pub signed_mul : (b : Bool) (s t : Sgn) → signed H b s ·ˢ t ≡ signed H b (t ·ˢ s)
  signed_mul true s t = opposite_left s t ∙ ap (λ u. minus ·ˢ u) (sign_comm s t)
  signed_mul false s t = sign_comm s t
