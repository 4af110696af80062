-- A product of frame rows, and its phase in front. Assumes nothing.
use Rattle.std.specs.Prelude.{◌≡◌, false}
use Rattle.std.proofs.Math.Path.{refl, sym, ap}
use Rattle.std.proofs.Common.{◌∙◌}
use mathlib.Core.List.{List, [], ◌∷◌, map}
use Prim.Native.Nat.{ℕ, zero, suc}
use Rattle.groups.specs.Abelian.{Ab, neg_neg, neg_of_add, dbl, pow2}
use Rattle.effect.specs.Phase.{Quarter, q0, q1, q2, q3, odd, ◌⊞₄◌, τ}
use Rattle.effect.specs.Words.{Setting}
use Rattle.effect.specs.Effect.{sums, pmul, product, complex_sums, front}
use Rattle.effect.proofs.Operators.{sgn}

module _ (H : Setting) where
  open H use {words as Ws}
  open Ws use {W, unit}

  abbrev S : Ab
  S = sums H

  open S use {C, zer, add_zer}

  -- a map of words with a phase that multiplies takes a product of rows to the product of its images
  pub product_map : (m : Quarter × W → Quarter × W) → m (q0, unit) ≡ (q0, unit)
      → ((a b : Quarter × W) → m (pmul H a b) ≡ pmul H (m a) (m b)) → (rows : List (Quarter × W)) → product H (map m rows) ≡ m (product H rows)
  unfolding product
  product_map m one mul [] = sym one
  product_map m one mul (a ∷ rows) = ap (pmul H (m a)) (product_map m one mul rows) ∙ sym (mul a (product H rows))

  -- ---- the phase in front

  pub front_add : (t u : Quarter) → odd u ≡ false → (f : C) → front H t (sgn H (τ u) f) ≡ front H (t ⊞₄ u) f
  front_add q0 q0 h f = refl
  front_add q1 q0 h f = refl
  front_add q2 q0 h f = refl
  front_add q3 q0 h f = refl
  front_add q0 q2 h f = refl
  front_add q1 q2 h f = refl
  front_add q2 q2 h f = λ i. (neg_neg S f i, zer)
  front_add q3 q2 h f = λ i. (zer, neg_neg S f i)
  front_add t q1 h f = cc
  front_add t q3 h f = cc

  front_dbl : (t : Quarter) (f : C) → front H t (dbl S f) ≡ dbl (complex_sums H) (front H t f)
  front_dbl q0 f = λ i. (dbl S f, sym (add_zer zer) i)
  front_dbl q1 f = λ i. (sym (add_zer zer) i, dbl S f)
  front_dbl q2 f = λ i. (neg_of_add S f f i, sym (add_zer zer) i)
  front_dbl q3 f = λ i. (sym (add_zer zer) i, neg_of_add S f f i)

  pub front_pow2 : (t : Quarter) (n : ℕ) (f : C) → front H t (pow2 S n f) ≡ pow2 (complex_sums H) n (front H t f)
  unfolding pow2
  front_pow2 t zero f = refl
  front_pow2 t (suc n) f = front_dbl t (pow2 S n f) ∙ ap (dbl (complex_sums H)) (front_pow2 t n f)
