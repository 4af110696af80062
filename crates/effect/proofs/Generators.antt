-- The generators J and A on formal sums: twice the same word, two words, their brackets. Assumes nothing.
use Rattle.std.specs.Prelude.{◌≡◌, refl, true, ℤ, neg_ℤ, ◌+ℤ◌}
use Rattle.std.proofs.Common.{sym, ◌∙◌, ap, ap₂}
use Rattle.std.proofs.Math.Path.{fun_ext}
use Rattle.groups.specs.Abelian.{IsAdd, neg_unique, neg_neg}
use Rattle.groups.specs.Root.{is_zero}
use Rattle.groups.proofs.Real.{IsReal}
use Rattle.effect.specs.Phase.{Quarter, odd, neg4, ◌⊞₄◌, Sgn, minus, ◌·ˢ◌, toℤ, σ, τ, σ-cube, σ-even, zero4, zero4_at, fits_of}
use Rattle.effect.specs.Words.{Setting}
use Rattle.effect.specs.Signs.{act, act_mul, act_add, act_map, act_diff}
use Rattle.effect.specs.Effect.{sums, sums_root, times, J}
use Rattle.effect.specs.Generators.{Commute}

-- what J P after ψ Q, less ψ Q after J P, less J of the product, comes to: u is the phase of P Q, v that of Q R, w of P R, t of (P Q) R
abbrev pub bracket_test : (Quarter → Sgn) → Quarter → Quarter → Quarter → Quarter → ℤ
bracket_test ψ u v w t =
    (toℤ (σ (neg4 w) ·ˢ ψ (neg4 ((neg4 u ⊞₄ t) ⊞₄ neg4 w))) +ℤ neg_ℤ (toℤ (ψ (neg4 v) ·ˢ σ (neg4 ((u ⊞₄ t) ⊞₄ neg4 v)))))
    +ℤ neg_ℤ (toℤ (σ u ·ˢ ψ (neg4 t)))

module _ (H : Setting) where
  open H use {words as Ws, coeff as K, root as Kr}
  open Ws use {W, ◌⊕◌, ph, ⊕-assoc, ⊕-comm, ⊕-cancel, ph_swap, ph_cancel, ph_mul, ph_odd}
  open K use {C, add as ◌⊹◌, neg}

  infixl 60 ◌⊹◌
  infixl 65 ◌⊕◌
  pub times_add : (χ : Quarter → Sgn) (P : W) → IsAdd (sums H) (times H χ P)
  times_add χ P f g = λ i R. act_add K (χ (ph P (P ⊕ R))) (f (P ⊕ R)) (g (P ⊕ R)) i

  pub times_real : (χ : Quarter → Sgn) (P : W) → IsReal (sums H) (sums_root H) (times H χ P)
  times_real χ P = (times_add χ P, λ f. fun_ext (λ R. sym (act_map K Kr.r Kr.r_add (χ (ph P (P ⊕ R))) (f (P ⊕ R)))))

  pub times_at : (χ : Quarter → Sgn) (P : W) (f : W → C) (R : W) → times H χ P f R ≡ act K (χ (neg4 (ph P R))) (f (P ⊕ R))
  times_at χ P f R = ap (λ t. act K (χ t) (f (P ⊕ R))) (ph_cancel P R)

  -- twice the same word
  pub twice_at : (χ : Quarter → Sgn) (P : W) (f : W → C) (R : W)
      → times H χ P (times H χ P f) R ≡ act K (χ (neg4 (ph P R)) ·ˢ χ (ph P R)) (f R)
  twice_at χ P f R =
      times_at χ P (times H χ P f) R
      ∙ act_mul K (χ (neg4 (ph P R))) (χ (ph P (P ⊕ (P ⊕ R)))) (f (P ⊕ (P ⊕ R)))
      ∙ ap (λ S. act K (χ (neg4 (ph P R)) ·ˢ χ (ph P S)) (f S)) (⊕-cancel P R)

  pub J_cube : (P : W) (f : W → C) → J H P (J H P (J H P f)) ≡ λ R. neg (J H P f R)
  J_cube P f = fun_ext go
    where
      go : (R : W) → J H P (J H P (J H P f)) R ≡ neg (J H P f R)
      go R =
          let q = ph P (P ⊕ R) in
          let x = f (P ⊕ R) in
          ap (act K (σ q)) (twice_at σ P f (P ⊕ R)) ∙ act_mul K (σ q) (σ (neg4 q) ·ˢ σ q) x
          ∙ ap (λ s. act K s x) (σ-cube q) ∙ sym (act_mul K minus (σ q) x)

  -- two words
  pub two_at : (χ ψ : Quarter → Sgn) (P Q : W) (f : W → C) (R : W) → times H χ P (times H ψ Q f) R
      ≡ act K (χ (neg4 (ph P R)) ·ˢ ψ (neg4 ((ph Q P ⊞₄ ph (Q ⊕ P) R) ⊞₄ neg4 (ph P R)))) (f ((Q ⊕ P) ⊕ R))
  two_at χ ψ P Q f R =
      let s = χ (neg4 (ph P R)) in
      times_at χ P (times H ψ Q f) R ∙ ap (act K s) (times_at ψ Q f (P ⊕ R))
      ∙ act_mul K s (ψ (neg4 (ph Q (P ⊕ R)))) (f (Q ⊕ (P ⊕ R)))
      ∙ ap₂ (λ t S. act K (s ·ˢ ψ (neg4 t)) (f S)) (ph_mul Q P R) (sym (⊕-assoc Q P R))

  -- ---- the J are a Lie algebra, and act on the A

  abbrev pub Bracket : (Quarter → Sgn) → Type 0
  Bracket ψ = (P Q : W) (f : W → C) (R : W)
      → J H P (times H ψ Q f) R ⊹ neg (times H ψ Q (J H P f) R) ≡ act K (σ (ph P Q)) (times H ψ (P ⊕ Q) f R)

  bracket_of : (ψ : Quarter → Sgn) → zero4 (bracket_test ψ) ≡ true → Bracket ψ
  bracket_of ψ h P Q f R =
      ap₂ (λ s t. s ⊹ neg t) first (two_at ψ σ Q P f R)
      ∙ act_diff K (σ (neg4 w) ·ˢ ψ (neg4 ((neg4 u ⊞₄ t) ⊞₄ neg4 w))) (ψ (neg4 v) ·ˢ σ (neg4 ((u ⊞₄ t) ⊞₄ neg4 v)))
      (σ u ·ˢ ψ (neg4 t)) tested x
      ∙ sym (act_mul K (σ u) (ψ (neg4 t)) x) ∙ ap (act K (σ u)) (sym (times_at ψ (P ⊕ Q) f R))
    where
      u : Quarter
      u = ph P Q

      v : Quarter
      v = ph Q R

      w : Quarter
      w = ph P R

      t : Quarter
      t = ph (P ⊕ Q) R

      x : C
      x = f ((P ⊕ Q) ⊕ R)

      first : J H P (times H ψ Q f) R ≡ act K (σ (neg4 w) ·ˢ ψ (neg4 ((neg4 u ⊞₄ t) ⊞₄ neg4 w))) x
      first =
          two_at σ ψ P Q f R
          ∙ ap₂ (λ a S. act K (σ (neg4 w) ·ˢ ψ (neg4 ((a ⊞₄ ph S R) ⊞₄ neg4 w))) (f (S ⊕ R))) (ph_swap P Q) (⊕-comm Q P)

      tested : is_zero (bracket_test ψ u v w t) ≡ true
      tested = zero4_at (bracket_test ψ) h u v w t (fits_of v w t (ap (λ S. odd (ph S R)) (⊕-comm P Q) ∙ ph_odd Q P R))

  pub bracket_j : Bracket σ
  bracket_j = bracket_of σ refl

  pub bracket_a : Bracket τ
  bracket_a = bracket_of τ refl

  -- a J commutes with what belongs to a commuting word
  pub times_comm : (ψ : Quarter → Sgn) → Bracket ψ → (P Q : W) → Commute H P Q → (f : W → C)
      → J H P (times H ψ Q f) ≡ times H ψ Q (J H P f)
  times_comm ψ br P Q h f = fun_ext go
    where
      go : (R : W) → J H P (times H ψ Q f) R ≡ times H ψ Q (J H P f) R
      go R =
          neg_unique K (J H P (times H ψ Q f) R) (neg (times H ψ Q (J H P f) R))
          (br P Q f R ∙ ap (λ s. act K s (times H ψ (P ⊕ Q) f R)) (σ-even (ph P Q) h))
          ∙ neg_neg K (times H ψ Q (J H P f) R)
