-- 01's sentences about the effect, for a single word Q. Assumes nothing.
use Rattle.std.specs.Prelude.{◌≡◌, [], ◌∷◌, Bool, true, false, ℕ}
use Rattle.std.proofs.Math.Path.{refl, ap, fun_ext}
use Rattle.std.proofs.Common.{sym, ◌∙◌, ap₂}
use Rattle.groups.specs.Abelian.{Ab, zer_add, map_zer, dbl}
use Rattle.groups.specs.Root.{Root, at, ∅, ◌⊞◌, ⊟◌, lin}
use Rattle.groups.specs.Eighth.{Eighth, e0, e1, e2, e3, e4, e5, e6, e7, is_even_e}
use Rattle.groups.specs.Real.{cos2, sin2}
use Rattle.groups.proofs.Real.{rot_still, rot_plane}
use Rattle.effect.specs.Phase.{Quarter, odd, neg4, Sgn, minus, ◌·ˢ◌, σ, τ, σ-even, τ-odd, σ-back, τ-back, τ-one, τ-three}
use Rattle.effect.specs.Words.{Setting}
use Rattle.effect.specs.Signs.{act, act_add}
use Rattle.effect.specs.Effect.{conditional, pick, sums, sums_root, times, J, A, rotate, measure, given, step, word}
use Rattle.effect.specs.Generators.{Commute}
use Rattle.effect.proofs.Generators.{times_add, times_real}
use Rattle.effect.proofs.Operators.{rotate_is, measure_is, sgn, sgn_map, sgn_mul}
use Rattle.effect.specs.Conjugation.{conj, conj_at}

module _ (H : Setting) where
  open H use {words as Ws, same, coeff as K, one}
  open Ws use {W, ◌⊕◌, ph, ⊕-cancel, ph_cancel}

  infixl 65 ◌⊕◌
  abbrev S : Ab
  S = sums H

  abbrev Sr : Root S
  Sr = sums_root H

  open S use {C, zer, add as ◌⊹◌, add_zer}

  infixl 60 ◌⊹◌
  abbrev Anticommute : W → W → Type 0
  Anticommute P Q = odd (ph P Q) ≡ true

  word_here : (Q R : W) → Q ≡ R → word H Q R ≡ one
  unfolding word
  word_here Q R h = go (same Q R)
    where
      go : (d : Dec (Q ≡ R)) → pick d one K.zer ≡ one
      go (yes e) = refl
      go (no e) = absurd (e h)

  word_else : (Q R : W) → ¬ (Q ≡ R) → word H Q R ≡ K.zer
  unfolding word
  word_else Q R h = go (same Q R)
    where
      go : (d : Dec (Q ≡ R)) → pick d one K.zer ≡ K.zer
      go (yes e) = absurd (h e)
      go (no e) = refl

  -- P times the word Q
  pub times_word : (χ : Quarter → Sgn) (P Q : W) → times H χ P (word H Q) ≡ sgn H (χ (ph P Q)) (word H (P ⊕ Q))
  times_word χ P Q = fun_ext λ R. go R (same Q (P ⊕ R))
    where
      none : (s : Sgn) → act K s K.zer ≡ K.zer
      none s = map_zer K (act K s) (act_add K s)

      go : (R : W) → Dec (Q ≡ P ⊕ R) → act K (χ (ph P (P ⊕ R))) (word H Q (P ⊕ R)) ≡ act K (χ (ph P Q)) (word H (P ⊕ Q) R)
      go R (yes e) =
          ap₂ (λ X c. act K (χ (ph P X)) c) (sym e) (word_here Q (P ⊕ R) e)
          ∙ ap (act K (χ (ph P Q))) (sym (word_here (P ⊕ Q) R (ap (λ X. P ⊕ X) e ∙ ⊕-cancel P R)))
      go R (no e) =
          ap (act K (χ (ph P (P ⊕ R)))) (word_else Q (P ⊕ R) e) ∙ none (χ (ph P (P ⊕ R)))
          ∙ sym (ap (act K (χ (ph P Q))) (word_else (P ⊕ Q) R (λ h. e (sym (⊕-cancel P Q) ∙ ap (λ X. P ⊕ X) h))) ∙ none (χ (ph P Q)))

  -- and P again
  times_word_twice : (χ : Quarter → Sgn) (P Q : W)
      → times H χ P (sgn H (χ (ph P Q)) (word H (P ⊕ Q))) ≡ sgn H (χ (ph P Q) ·ˢ χ (neg4 (ph P Q))) (word H Q)
  times_word_twice χ P Q =
      let s = χ (ph P Q) in
      sgn_map H (times H χ P) (times_add H χ P) s (word H (P ⊕ Q)) ∙ ap (sgn H s) (times_word χ P (P ⊕ Q))
      ∙ sgn_mul H s (χ (ph P (P ⊕ Q))) (word H (P ⊕ (P ⊕ Q)))
      ∙ ap₂ (λ q X. sgn H (s ·ˢ χ q) (word H X)) (ph_cancel P Q) (⊕-cancel P Q)

  -- "Rotation k about P: a commuting Q is doubled"
  pub rotate_commuting : (e : Eighth) (P Q : W) → Commute H P Q → rotate H e P (word H Q) ≡ dbl S (word H Q)
  rotate_commuting e P Q h =
      rotate_is H e P (word H Q)
      ∙ rot_still S Sr e (J H P) (times_real H σ P) (word H Q) (times_word σ P Q ∙ ap (λ s. sgn H s (word H (P ⊕ Q))) (σ-even (ph P Q) h))

  -- "an anticommuting Q goes to Q times 2cos(kπ/4) plus iPQ times 2sin(kπ/4)"
  pub rotate_anticommuting : (e : Eighth) (P Q : W) → Anticommute P Q
      → rotate H e P (word H Q) ≡ sin2 S Sr e (sgn H (σ (ph P Q)) (word H (P ⊕ Q))) ⊹ cos2 S Sr e (word H Q)
  rotate_anticommuting e P Q h =
      rotate_is H e P (word H Q) ∙ rot_plane S Sr e (J H P) (word H Q) (sgn H (σ (ph P Q)) (word H (P ⊕ Q))) (times_word σ P Q)
      (times_word_twice σ P Q ∙ ap (λ s. sgn H s (word H Q)) (σ-back (ph P Q) h))

  -- "Measurement m: an anticommuting Q vanishes"
  pub measure_anticommuting : (s : Sgn) (P Q : W) → Anticommute P Q → measure H s P (word H Q) ≡ zer
  measure_anticommuting s P Q h =
      measure_is H s P (word H Q) ∙ ap₂ (λ x y. x ⊹ sgn H s y) (ap (A H P) gone ∙ map_zer S (A H P) (times_add H τ P)) gone
      ∙ zer_add S (sgn H s zer) ∙ fun_ext (λ R. map_zer K (act K s) (act_add K s))
    where
      gone : A H P (word H Q) ≡ zer
      gone = times_word τ P Q ∙ ap (λ s. sgn H s (word H (P ⊕ Q))) (τ-odd (ph P Q) h)

  -- "a commuting one goes to Q plus (-1)^m PQ"
  pub measure_commuting : (s : Sgn) (P Q : W) → Commute H P Q
      → measure H s P (word H Q) ≡ word H Q ⊹ sgn H s (sgn H (τ (ph P Q)) (word H (P ⊕ Q)))
  measure_commuting s P Q h = measure_is H s P (word H Q) ∙ ap₂ (λ x y. x ⊹ sgn H s y) back (times_word τ P Q)
    where
      back : A H P (A H P (word H Q)) ≡ word H Q
      back = ap (A H P) (times_word τ P Q) ∙ times_word_twice τ P Q ∙ ap (λ s. sgn H s (word H Q)) (τ-back (ph P Q) h)

  -- "A conditional rotation whose outcome is 0 doubles all"
  pub conditional_zero : (o : ℕ → Bool) (e : Eighth) (P : W) (m : ℕ) (f : W → K.C) → o m ≡ false → step H o (conditional e P m) f ≡ dbl S f
  unfolding step
  conditional_zero o e P m f h = ap (λ b. given H b e P f) h

  -- and whose outcome is 1 rotates
  pub conditional_one : (o : ℕ → Bool) (e : Eighth) (P : W) (m : ℕ) (f : W → K.C) → o m ≡ true
      → step H o (conditional e P m) f ≡ rotate H e P f
  unfolding step
  conditional_one o e P m f h = ap (λ b. given H b e P f) h

  -- an even rotation takes a word to twice its image
  even_at : (b : Bool) (e : Eighth) (B Q : W) → odd (ph B Q) ≡ b → is_even_e e ≡ true
      → rotate H e B (word H Q) ≡ dbl S (sgn H (τ (conj_at H b e B Q).0) (word H (conj_at H b e B Q).1))
  even_at false e B Q h k = rotate_commuting e B Q h
  even_at true e0 B Q h k = rotate_anticommuting e0 B Q h ∙ zer_add S (dbl S (word H Q))
  even_at true e1 B Q h k = cc
  even_at true e2 B Q h k =
      rotate_anticommuting e2 B Q h ∙ add_zer (dbl S (sgn H (σ (ph B Q)) (word H (B ⊕ Q))))
      ∙ ap (λ s. dbl S (sgn H s (word H (B ⊕ Q)))) (sym (τ-one (ph B Q)))
  even_at true e3 B Q h k = cc
  even_at true e4 B Q h k = rotate_anticommuting e4 B Q h ∙ lin S Sr (word H Q ∷ []) (∅ ⊞ ⊟ (at 0 ⊞ at 0)) (⊟ at 0 ⊞ ⊟ at 0) refl
  even_at true e5 B Q h k = cc
  even_at true e6 B Q h k =
      rotate_anticommuting e6 B Q h ∙ lin S Sr (sgn H (σ (ph B Q)) (word H (B ⊕ Q)) ∷ []) (⊟ (at 0 ⊞ at 0) ⊞ ∅) (⊟ at 0 ⊞ ⊟ at 0) refl
      ∙ ap (dbl S) (sgn_mul H minus (σ (ph B Q)) (word H (B ⊕ Q))) ∙ ap (λ s. dbl S (sgn H s (word H (B ⊕ Q)))) (sym (τ-three (ph B Q)))
  even_at true e7 B Q h k = cc

  pub rotate_even : (e : Eighth) (B Q : W) → is_even_e e ≡ true
      → rotate H e B (word H Q) ≡ dbl S (sgn H (τ (conj H e B Q).0) (word H (conj H e B Q).1))
  unfolding conj
  rotate_even e B Q k = even_at (odd (ph B Q)) e B Q refl k
