-- Signs taken into angles: the model's, the source's, and what they do. Assumes nothing.
use Rattle.std.specs.Prelude.{◌≡◌, refl, Bool, true, false, ℕ, zero, suc, ◌-◌, ◌%◌, ◌≤◌, ◌<◌, pos, neg_ℤ}
use Rattle.std.proofs.Common.{sym, ◌∙◌, ap, ap₂, true≢false, arith}
use Rattle.groups.specs.Abelian.{map_neg}
use Rattle.groups.specs.Eighth.{Eighth, prev, eighth, eighth_neg}
use Rattle.groups.specs.Real.{cos2, sin2}
use Rattle.groups.proofs.Real.{cos2_add, cos2_flip, sin2_flip}
use Rattle.model.specs.Lists.{when◌then◌else◌, is_odd}
use Rattle.model.specs.Items.{with_sign}
use Rattle.effect.specs.Phase.{odd, minus}
use Rattle.effect.specs.Words.{Setting}
use Rattle.effect.specs.Effect.{J, rotate_at, rotate}
use Rattle.packing_effect.specs.Source.{sign_of, signed_angle}

-- ---- -k is 8 - k modulo 8

minus_angle : (k : ℕ) → k ≤ 7 → eighth (pos ((8 - k) % 8)) ≡ eighth (neg_ℤ (pos k))
minus_angle zero h = refl
minus_angle (suc zero) h = refl
minus_angle (suc (suc zero)) h = refl
minus_angle (suc (suc (suc zero))) h = refl
minus_angle (suc (suc (suc (suc zero)))) h = refl
minus_angle (suc (suc (suc (suc (suc zero))))) h = refl
minus_angle (suc (suc (suc (suc (suc (suc zero)))))) h = refl
minus_angle (suc (suc (suc (suc (suc (suc (suc zero))))))) h = refl
minus_angle (suc (suc (suc (suc (suc (suc (suc (suc k)))))))) h = absurd (omega arith)

-- for 0 and 2 quarter turns the model's angle with a sign is the source's
pub with_sign_angle : (s k : ℕ) → s < 4 → is_odd s ≡ false → k ≤ 7 → eighth (pos (with_sign s k)) ≡ signed_angle (sign_of s) k
unfolding with_sign when◌then◌else◌
with_sign_angle zero k b e h = refl
with_sign_angle (suc zero) k b e h = absurd (true≢false e)
with_sign_angle (suc (suc zero)) k b e h = minus_angle k h
with_sign_angle (suc (suc (suc zero))) k b e h = absurd (true≢false e)
with_sign_angle (suc (suc (suc (suc s)))) k b e h = absurd (omega arith)

-- four quarter turns less leave the parity
pub even_mod4 : (n : ℕ) → is_odd n ≡ false → is_odd (n % 4) ≡ false
even_mod4 n e = let q : n % 4 % 2 ≡ n % 2 = omega arith in rw q e

-- ---- -k about P is k about -P: "Q times 2cos(kπ/4) plus iPQ times 2sin(kπ/4)", with -P for P

module _ (H : Setting) where
  open H use {words as Ws, coeff as K, root as Kr}
  open Ws use {W, ph}
  open K use {C, add as ◌⊹◌, neg}

  infixl 60 ◌⊹◌
  pub rotate_minus : (k : ℕ) (P : W) (f : W → C) (R : W)
      → rotate H (signed_angle minus k) P f R ≡ rotate_at H (odd (ph P R)) (eighth (pos k)) (f R) (neg (J H P f R))
  unfolding rotate
  rotate_minus k P f R = go (odd (ph P R)) (f R) (J H P f R)
    where
      e : Eighth
      e = eighth (pos k)

      go : (b : Bool) (a c : C) → rotate_at H b (eighth (neg_ℤ (pos k))) a c ≡ rotate_at H b e a (neg c)
      go false a c = refl
      go true a c =
          ap (λ (d : Eighth). cos2 K Kr d a ⊹ sin2 K Kr d c) (eighth_neg (pos k))
          ∙ ap₂ (λ (x : C) (y : C). x ⊹ y) (cos2_flip K Kr e a)
          (sin2_flip K Kr e c ∙ sym (map_neg K (sin2 K Kr e) (cos2_add K Kr (prev (prev e))) c))
