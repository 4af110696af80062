-- 01, "Effect": formal sums of words, what an operation does to them, the effect of a program, and equal effects. Assumes nothing.
use Rattle.std.specs.Prelude.{◌≡◌, List, [], ◌∷◌, Bool, true, false, ℕ, length}
use Rattle.groups.specs.Abelian.{Ab, dbl, pow2}
use Rattle.groups.specs.Root.{Root}
use Rattle.groups.specs.Combined.{◌×ᵃ◌, ◌⇒ᵃ◌}
use Rattle.groups.specs.Eighth.{Eighth}
use Rattle.groups.specs.Real.{cos2, sin2}
use Rattle.groups.specs.Coeff.{fun_root}
use Rattle.effect.specs.Phase.{Quarter, q0, q1, q2, q3, odd, ◌⊞₄◌, Sgn, minus, ◌·ˢ◌, σ, τ}
use Rattle.effect.specs.Words.{Setting}
use Rattle.effect.specs.Signs.{act}

-- a rotation's angle in eighths and its word; a measurement's sign, word and outcome; a conditional rotation's angle, word and condition
pub data Op (W : Type 0) : Type 0 where
  plain : Eighth → W → Op W
  measured : Sgn → W → ℕ → Op W
  conditional : Eighth → W → ℕ → Op W

abbrev pub pick : {A B : Type 0} → Dec A → B → B → B
pick (yes a) x y = x
pick (no a) x y = y

module _ (H : Setting) where
  open H use {words as Ws, same, coeff as K, root as Kr, one}
  open Ws use {W, ◌⊕◌, ph, unit}
  open K use {C, zer, add as ◌⊹◌, neg}

  infixl 60 ◌⊹◌
  infixl 65 ◌⊕◌
  -- ---- formal sums: a coefficient for each word

  abbrev pub sums : Ab
  sums = W ⇒ᵃ K

  abbrev pub sums_root : Root sums
  sums_root = fun_root W K Kr

  -- Q goes to P Q, times the sign that χ gives to the phase: the coefficient of R = P Q is that of Q = P R
  abbrev pub times : (Quarter → Sgn) → W → (W → C) → W → C
  times χ P f R = act K (χ (ph P (P ⊕ R))) (f (P ⊕ R))

  -- Q goes to i P Q if it anticommutes with P, else to nothing
  abbrev pub J : W → (W → C) → W → C
  J P f R = times σ P f R

  -- Q goes to P Q if it commutes with P, else to nothing
  abbrev pub A : W → (W → C) → W → C
  A P f R = times τ P f R

  -- ---- "Rotation k about P"

  -- "a commuting Q is doubled; an anticommuting Q goes to Q times 2cos(kπ/4) plus iPQ times 2sin(kπ/4)"
  abbrev pub rotate_at : Bool → Eighth → C → C → C
  rotate_at false e a b = dbl K a
  rotate_at true e a b = cos2 K Kr e a ⊹ sin2 K Kr e b

  unfoldable pub rotate : Eighth → W → (W → C) → W → C
  rotate e P f R = rotate_at (odd (ph P R)) e (f R) (J P f R)

  -- ---- "Measurement m"

  -- "an anticommuting Q vanishes; a commuting one goes to Q plus (-1)^m PQ": s is (-1)^m times P's own sign
  abbrev pub keep_at : Bool → C → C → C
  keep_at false a b = a ⊹ b
  keep_at true a b = zer

  unfoldable pub measure : Sgn → W → (W → C) → W → C
  measure s P f R = keep_at (odd (ph P R)) (f R) (act K s (A P f R))

  -- (-1)^m
  abbrev pub signed : Bool → Sgn → Sgn
  signed false s = s
  signed true s = minus ·ˢ s

  -- "A conditional rotation whose outcome is 0 doubles all"
  abbrev pub given : Bool → Eighth → W → (W → C) → W → C
  given true e P f = rotate e P f
  given false e P f = dbl sums f

  -- ---- a program: "For a choice of outcomes"

  unfoldable pub step : (ℕ → Bool) → Op W → (W → C) → W → C
  step o (plain e P) f = rotate e P f
  step o (measured s P m) f = measure (signed (o m) s) P f
  step o (conditional e P m) f = given (o m) e P f

  -- "Go through operations last to first": the first operation acts last
  unfoldable pub effect : (ℕ → Bool) → List (Op W) → (W → C) → W → C
  effect o [] f = f
  effect o (p ∷ ps) f = step o p (effect o ps f)

  -- ---- "start at a product of frame rows (perhaps of none), its phase kept in front"

  -- the word Q as a formal sum
  unfoldable pub word : W → W → C
  word Q R = pick (same Q R) one zer

  -- i^t P times i^u Q
  abbrev pub pmul : Quarter × W → Quarter × W → Quarter × W
  pmul a b = ((a.0 ⊞₄ b.0) ⊞₄ ph a.1 b.1, a.1 ⊕ b.1)

  -- rows multiplied in order
  unfoldable pub product : List (Quarter × W) → Quarter × W
  product [] = (q0, unit)
  product (a ∷ l) = pmul a (product l)

  -- sums with complex coefficients: a real and an imaginary part
  abbrev pub complex_sums : Ab
  complex_sums = sums ×ᵃ sums

  -- i^t in front of a real sum
  abbrev pub front : Quarter → (W → C) → (W → C) × (W → C)
  front q0 f = (f, λ R. zer)
  front q1 f = (λ R. zer, f)
  front q2 f = (λ R. neg (f R), λ R. zer)
  front q3 f = (λ R. zer, λ R. neg (f R))

  -- the effect: outcomes, operations, the rows that are multiplied
  unfoldable pub effect_from : (ℕ → Bool) → List (Op W) → List (Quarter × W) → (W → C) × (W → C)
  effect_from o X rows = front (product rows).0 (effect o X (word (product rows).1))

  -- ---- "Effects are equal after factors 2 for the difference in operation count"

  infix 20 ◌≈◌
  abbrev pub ◌≈◌ : List (Op W) → List (Op W) → Type 0
  X ≈ Y = (o : ℕ → Bool) (f : W → C) → pow2 sums (length Y) (effect o X f) ≡ pow2 sums (length X) (effect o Y f)
