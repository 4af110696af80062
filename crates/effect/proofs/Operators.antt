-- Rotations and measurements as operators built from J and A; they are additive and commute with √2. Assumes nothing.
use Rattle.std.specs.Prelude.{◌≡◌, Bool, true, false, ℕ}
use Rattle.std.proofs.Math.Path.{refl, sym, ap, fun_ext}
use Rattle.std.proofs.Common.{◌∙◌, ap₂, subst}
use mathlib.Core.List.{List, [], ◌∷◌, ◌++◌}
use Rattle.groups.specs.Abelian.{Ab, zer_add, IsAdd, map_zer, map_neg, dbl}
use Rattle.groups.specs.Root.{Root, at, ∅, ◌⊞◌, ⊟◌, lin}
use Rattle.groups.specs.Eighth.{Eighth, e0, e1, e2, e3, e4, e5, e6, e7, prev}
use Rattle.groups.specs.Real.{cos2, sin2}
use Rattle.groups.proofs.Real.{cos2_add, IsReal, rot, rot_real, sum_real, comp_real, id_real}
use Rattle.effect.specs.Phase.{Quarter, q0, q1, q2, q3, odd, neg4, Sgn, nil, plus, minus, ◌·ˢ◌, σ, τ}
use Rattle.effect.specs.Words.{Setting}
use Rattle.effect.specs.Signs.{act, act_mul, act_add, act_map}
use Rattle.effect.specs.Effect.{Op, plain, measured, conditional, sums, sums_root, J, A, rotate_at, rotate, keep_at, measure, signed}
use Rattle.effect.specs.Effect.{given}
use Rattle.effect.specs.Effect.{step, effect}
use Rattle.effect.proofs.Generators.{times_at, twice_at, times_real}

module _ (H : Setting) where
  open H use {words as Ws, coeff as K, root as Kr}
  open Ws use {W, ◌⊕◌, ph}
  open K use {C, zer, add as ◌⊹◌, neg}

  infixl 60 ◌⊹◌
  infixl 65 ◌⊕◌
  abbrev S : Ab
  S = sums H

  abbrev Sr : Root S
  Sr = sums_root H

  -- ---- rotation k about P is 2 exp (k π/4 J)

  cos2_fun : (e : Eighth) (f : W → C) (R : W) → cos2 S Sr e f R ≡ cos2 K Kr e (f R)
  cos2_fun e0 f R = refl
  cos2_fun e1 f R = refl
  cos2_fun e2 f R = refl
  cos2_fun e3 f R = refl
  cos2_fun e4 f R = refl
  cos2_fun e5 f R = refl
  cos2_fun e6 f R = refl
  cos2_fun e7 f R = refl

  -- 2 exp at a coefficient: a is the sum's own, b that of J J, c that of J
  abbrev exp2 : Eighth → C → C → C → C
  exp2 e a b c = (dbl K (a ⊹ b) ⊹ neg (cos2 K Kr e b)) ⊹ sin2 K Kr e c

  still_at : (e : Eighth) (a : C) → dbl K a ≡ exp2 e a zer zer
  still_at e a =
      sym (ap₂ (λ s t. (dbl K (a ⊹ zer) ⊹ neg s) ⊹ t) (map_zer K (cos2 K Kr e) (cos2_add K Kr e))
      (map_zer K (sin2 K Kr e) (cos2_add K Kr (prev (prev e))))
      ∙ lin K Kr (a ∷ []) ((((at 0 ⊞ ∅) ⊞ (at 0 ⊞ ∅)) ⊞ ⊟ ∅) ⊞ ∅) (at 0 ⊞ at 0) refl)

  moved_at : (e : Eighth) (a c : C) → cos2 K Kr e a ⊹ sin2 K Kr e c ≡ exp2 e a (neg a) c
  moved_at e a c =
      sym (ap (λ t. (dbl K (a ⊹ neg a) ⊹ neg t) ⊹ sin2 K Kr e c) (map_neg K (cos2 K Kr e) (cos2_add K Kr e) a)
      ∙ lin K Kr (a ∷ cos2 K Kr e a ∷ sin2 K Kr e c ∷ []) ((((at 0 ⊞ ⊟ at 0) ⊞ (at 0 ⊞ ⊟ at 0)) ⊞ ⊟ (⊟ at 1)) ⊞ at 2)
      (at 1 ⊞ at 2) refl)

  rotate_cases : (q : Quarter) (e : Eighth) (a c : C)
      → rotate_at H (odd q) e a (act K (σ (neg4 q)) c) ≡ exp2 e a (act K (σ (neg4 q) ·ˢ σ q) a) (act K (σ (neg4 q)) c)
  rotate_cases q0 e a c = still_at e a
  rotate_cases q1 e a c = moved_at e a c
  rotate_cases q2 e a c = still_at e a
  rotate_cases q3 e a c = moved_at e a (neg c)

  pub rotate_is : (e : Eighth) (P : W) (f : W → C) → rotate H e P f ≡ rot S Sr e (J H P) f
  unfolding rotate
  rotate_is e P f = fun_ext go
    where
      go : (R : W) → rotate_at H (odd (ph P R)) e (f R) (J H P f R) ≡ rot S Sr e (J H P) f R
      go R =
          ap (rotate_at H (odd (ph P R)) e (f R)) (times_at H σ P f R) ∙ rotate_cases (ph P R) e (f R) (f (P ⊕ R))
          ∙ sym (ap₂ ◌⊹◌
          (ap₂ ◌⊹◌ (ap (λ t. dbl K (f R ⊹ t)) square)
          (ap neg (cos2_fun e (J H P (J H P f)) R ∙ ap (cos2 K Kr e) square)))
          (cos2_fun (prev (prev e)) (J H P f) R ∙ ap (sin2 K Kr e) (times_at H σ P f R)))
        where
          square : J H P (J H P f) R ≡ act K (σ (neg4 (ph P R)) ·ˢ σ (ph P R)) (f R)
          square = twice_at H σ P f R

  -- ---- a measurement is A A + s A

  act_none : (s : Sgn) → act K s zer ≡ zer
  act_none s = map_zer K (act K s) (act_add K s)

  keep_cases : (q : Quarter) (s : Sgn) (a c : C)
      → keep_at H (odd q) a (act K s (act K (τ (neg4 q)) c)) ≡ act K (τ (neg4 q) ·ˢ τ q) a ⊹ act K s (act K (τ (neg4 q)) c)
  keep_cases q0 s a c = refl
  keep_cases q1 s a c = sym (zer_add K (act K s zer) ∙ act_none s)
  keep_cases q2 s a c = refl
  keep_cases q3 s a c = sym (zer_add K (act K s zer) ∙ act_none s)

  pub measure_is : (s : Sgn) (P : W) (f : W → C) → measure H s P f ≡ λ R. A H P (A H P f) R ⊹ act K s (A H P f R)
  unfolding measure
  measure_is s P f = fun_ext go
    where
      go : (R : W) → keep_at H (odd (ph P R)) (f R) (act K s (A H P f R)) ≡ A H P (A H P f) R ⊹ act K s (A H P f R)
      go R =
          ap (λ t. keep_at H (odd (ph P R)) (f R) (act K s t)) (times_at H τ P f R) ∙ keep_cases (ph P R) s (f R) (f (P ⊕ R))
          ∙ sym (ap₂ ◌⊹◌ (twice_at H τ P f R) (ap (act K s) (times_at H τ P f R)))

  -- ---- a sign times a sum

  abbrev pub sgn : Sgn → (W → C) → W → C
  sgn s f R = act K s (f R)

  pub sgn_real : (s : Sgn) → IsReal S Sr (sgn s)
  sgn_real s = (λ f g. fun_ext (λ R. act_add K s (f R) (g R)), λ f. fun_ext (λ R. sym (act_map K Kr.r Kr.r_add s (f R))))

  pub sgn_map : (Φ : (W → C) → W → C) → IsAdd S Φ → (s : Sgn) (f : W → C) → Φ (sgn s f) ≡ sgn s (Φ f)
  sgn_map Φ fa nil f = map_zer S Φ fa
  sgn_map Φ fa plus f = refl
  sgn_map Φ fa minus f = map_neg S Φ fa f

  pub sgn_mul : (s t : Sgn) (f : W → C) → sgn s (sgn t f) ≡ sgn (s ·ˢ t) f
  sgn_mul s t f = fun_ext (λ R. act_mul K s t (f R))

  -- ---- operations are real maps

  pub rotate_real : (e : Eighth) (P : W) → IsReal S Sr (rotate H e P)
  rotate_real e P = subst (IsReal S Sr) (sym (fun_ext (rotate_is e P))) (rot_real S Sr e (J H P) (times_real H σ P))

  pub measure_real : (s : Sgn) (P : W) → IsReal S Sr (measure H s P)
  measure_real s P =
      subst (IsReal S Sr) (sym (fun_ext (measure_is s P)))
      (sum_real S Sr (λ f. A H P (A H P f)) (λ f. sgn s (A H P f))
      (comp_real S Sr (A H P) (A H P) (times_real H τ P) (times_real H τ P))
      (comp_real S Sr (sgn s) (A H P) (sgn_real s) (times_real H τ P)))

  pub given_real : (b : Bool) (e : Eighth) (P : W) → IsReal S Sr (given H b e P)
  given_real true e P = rotate_real e P
  given_real false e P = sum_real S Sr (λ f. f) (λ f. f) (id_real S Sr) (id_real S Sr)

  pub step_real : (o : ℕ → Bool) (p : Op W) → IsReal S Sr (step H o p)
  unfolding step
  step_real o (plain e P) = rotate_real e P
  step_real o (measured s P m) = measure_real (signed H (o m) s) P
  step_real o (conditional e P m) = given_real (o m) e P

  pub effect_real : (o : ℕ → Bool) (X : List (Op W)) → IsReal S Sr (effect H o X)
  unfolding effect
  effect_real o [] = id_real S Sr
  effect_real o (p ∷ X) = comp_real S Sr (step H o p) (effect H o X) (step_real o p) (effect_real o X)

  pub effect_append : (o : ℕ → Bool) (X Y : List (Op W)) (f : W → C) → effect H o (X ++ Y) f ≡ effect H o X (effect H o Y f)
  unfolding effect
  effect_append o [] Y f = refl
  effect_append o (p ∷ X) Y f = ap (step H o p) (effect_append o X Y f)
