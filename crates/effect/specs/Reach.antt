-- Over which operations a rotation slides. Assumes nothing.
use Rattle.std.specs.Prelude.{List, [], ◌∷◌}
use Rattle.effect.specs.Words.{Setting}
use Rattle.effect.specs.Effect.{Op, plain, measured, conditional}
use Rattle.effect.specs.Effect as Effect
use Rattle.effect.specs.Generators.{Commute}

module _ (H : Setting) where
  open H use {words as Ws}
  open Ws use {W}

  -- rotations that commute with P; nothing slides over a measurement or a conditional rotation
  abbrev pub Passes : W → Op W → Type 0
  Passes P (plain d Q) = Commute H Q P
  Passes P (measured s Q m) = ⊥
  Passes P (conditional d Q m) = ⊥

  abbrev pub AllPass : W → List (Op W) → Type 0
  AllPass P [] = Unit {0}
  AllPass P (p ∷ B) = Passes P p × AllPass P B
