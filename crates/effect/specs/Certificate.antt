-- 01, "Two groups, each of axes that commute with one another, exchange if, for each product word, the signed sum of angle products over
-- anticommuting pairs is zero". Assumes nothing.
use Rattle.std.specs.Prelude.{◌≡◌, pos, ◌+ℤ◌, ◌*ℤ◌}
use mathlib.Core.List.{List, [], ◌∷◌, ◌++◌}
use Rattle.std.proofs.Math.Nat as NatL
use Rattle.std.proofs.Math.IntN.{ℤ}
use Rattle.groups.specs.Eighth.{eighth}
use Rattle.groups.proofs.Real as Real
use Rattle.effect.specs.Phase.{toℤ, σ}
use Rattle.effect.specs.Words.{Setting}
use Rattle.effect.specs.Effect.{Op, plain, pick}
use Rattle.effect.specs.Generators.{Commute}

module _ (H : Setting) where
  open H use {words as Ws, same}
  open Ws use {W, ◌⊕◌, ph}

  infixl 65 ◌⊕◌
  -- ---- what is tested: angles, whole numbers, with their axes

  -- "the signed sum of angle products over anticommuting pairs": each pair's signed product, with its product word; 0 for a commuting pair
  unfoldable pub row : ℤ × W → List (ℤ × W) → List (ℤ × W)
  row a [] = []
  row a (b ∷ B) = (toℤ (σ (ph a.1 b.1)) *ℤ (a.0 *ℤ b.0), a.1 ⊕ b.1) ∷ row a B

  unfoldable pub products : List (ℤ × W) → List (ℤ × W) → List (ℤ × W)
  products [] B = []
  products (a ∷ A) B = row a B ++ products A B

  -- the sum of the numbers that are listed with P
  unfoldable pub weight : W → List (ℤ × W) → ℤ
  weight P [] = pos 0
  weight P (a ∷ L) = pick (same a.1 P) (a.0 +ℤ weight P L) (weight P L)

  -- "for each product word .. is zero"
  abbrev pub Balanced : List (ℤ × W) → Type 0
  Balanced L = (P : W) → weight P L ≡ pos 0

  -- "each of axes that commute with one another"
  abbrev pub CommuteAll : W → List (ℤ × W) → Type 0
  CommuteAll P [] = Unit {0}
  CommuteAll P (a ∷ L) = Commute H P a.1 × CommuteAll P L

  abbrev pub Group : List (ℤ × W) → Type 0
  Group [] = Unit {0}
  Group (a ∷ L) = CommuteAll a.1 L × Group L

  -- the rotations of a group
  unfoldable pub turns : List (ℤ × W) → List (Op W)
  turns [] = []
  turns (a ∷ L) = plain (eighth a.0) a.1 ∷ turns L
