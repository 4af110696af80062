-- Programs with equal effects: a part can be replaced; merging, commuting, dropping. Assumes nothing.
use Rattle.std.specs.Prelude.{◌≡◌, List, [], ◌∷◌, ◌++◌, Bool, ℕ, ℤ, pos, ◌+ℤ◌, length}
use Rattle.std.proofs.Math.Path.{refl, ap, fun_ext}
use Rattle.std.proofs.Common.{sym, ◌∙◌, ap₂, length-append}
use Rattle.std.proofs.Math.Bool.{true, false}
use Rattle.std.proofs.Math.Nat as NatL
use Rattle.groups.specs.Abelian.{Ab, map_pow2, dbl, pow2, pow2_plus, pow2_swap}
use Rattle.groups.specs.Normaliser.{cancel2}
use Rattle.groups.specs.Root.{Root}
use Rattle.groups.specs.Eighth.{Eighth, eighth}
use Rattle.groups.proofs.Real.{rot}
use Rattle.groups.proofs.Rules as Rules
use Rattle.effect.specs.Phase.{odd, σ}
use Rattle.effect.specs.Words.{Setting}
use Rattle.effect.specs.Effect.{Op, plain, sums, sums_root, J, rotate_at, rotate, step, effect}
use Rattle.effect.specs.Effect as Effect
use Rattle.effect.specs.Generators.{Commute}
use Rattle.effect.proofs.Generators.{times_real, J_cube, times_comm, bracket_j}
use Rattle.effect.proofs.Operators.{rotate_is, step_real, effect_append}

module _ (H : Setting) where
  open H use {words as Ws, coeff as K}
  open Ws use {W, ph, unit, ph_unit}
  open K use {C, add_zer}

  abbrev S : Ab
  S = sums H

  abbrev Sr : Root S
  Sr = sums_root H

  infix 20 ◌≈◌
  abbrev ◌≈◌ : List (Op W) → List (Op W) → Type 0
  X ≈ Y = Effect.◌≈◌ H X Y

  -- ---- an equivalence, kept by what stands before and after

  pub ≈-refl : (X : List (Op W)) → X ≈ X
  ≈-refl X o f = refl

  pub ≈-sym : (X Y : List (Op W)) → X ≈ Y → Y ≈ X
  ≈-sym X Y h o f = sym (h o f)

  pub ≈-trans : (X Y Z : List (Op W)) → X ≈ Y → Y ≈ Z → X ≈ Z
  ≈-trans X Y Z h k o f =
      cancel2 S Sr.torsion y (pow2 S z (E X)) (pow2 S x (E Z))
      (pow2_swap S y z (E X) ∙ ap (pow2 S z) (h o f) ∙ pow2_swap S z x (E Y) ∙ ap (pow2 S x) (k o f) ∙ pow2_swap S x y (E Z))
    where
      x : ℕ
      x = length X

      y : ℕ
      y = length Y

      z : ℕ
      z = length Z

      E : List (Op W) → W → C
      E L = effect H o L f

  pub ≈-cons : (p : Op W) (X Y : List (Op W)) → X ≈ Y → (p ∷ X) ≈ (p ∷ Y)
  unfolding effect pow2
  ≈-cons p X Y h o f =
      ap (dbl S)
      (sym (map_pow2 S (step H o p) (step_real H o p).0 (length Y) (effect H o X f)) ∙ ap (step H o p) (h o f)
      ∙ map_pow2 S (step H o p) (step_real H o p).0 (length X) (effect H o Y f))

  pub ≈-before : (L X Y : List (Op W)) → X ≈ Y → (L ++ X) ≈ (L ++ Y)
  ≈-before [] X Y h = h
  ≈-before (p ∷ L) X Y h = ≈-cons p (L ++ X) (L ++ Y) (≈-before L X Y h)

  pub ≈-after : (X Y Z : List (Op W)) → X ≈ Y → (X ++ Z) ≈ (Y ++ Z)
  ≈-after X Y Z h o f = one X Y ∙ ap (pow2 S (length Z)) (h o (effect H o Z f)) ∙ sym (one Y X)
    where
      one : (X Y : List (Op W)) → pow2 S (length (Y ++ Z)) (effect H o (X ++ Z) f)
          ≡ pow2 S (length Z) (pow2 S (length Y) (effect H o X (effect H o Z f)))
      one X Y =
          let g = effect H o X (effect H o Z f) in
          ap₂ (pow2 S) (length-append Y Z) (effect_append H o X Z f)
          ∙ pow2_plus S (length Y) (length Z) g ∙ pow2_swap S (length Y) (length Z) g

  -- ---- merging: k, then k' about one axis, is k + k'

  pub merge : (a b : ℤ) (P : W) → (plain (eighth a) P ∷ plain (eighth b) P ∷ []) ≈ (plain (eighth (a +ℤ b)) P ∷ [])
  unfolding effect step pow2
  merge a b P o f =
      ap (dbl S)
      (rotate_is H (eighth a) P (rotate H (eighth b) P f) ∙ ap (rot S Sr (eighth a) (J H P)) (rotate_is H (eighth b) P f)
      ∙ Rules.merge S Sr (J H P) (times_real H σ P) (J_cube H P) a b f ∙ ap (dbl S) (sym (rotate_is H (eighth (a +ℤ b)) P f)))

  -- ---- commuting: rotations about words that commute

  rotate_comm : (P Q : W) → Commute H P Q → (a b : Eighth) (f : W → C) → rotate H a P (rotate H b Q f) ≡ rotate H b Q (rotate H a P f)
  rotate_comm P Q h a b f =
      rotate_is H a P (rotate H b Q f) ∙ ap (rot S Sr a (J H P)) (rotate_is H b Q f)
      ∙ Rules.commute S Sr (J H P) (J H Q) (times_real H σ P) (times_real H σ Q) (times_comm H σ (bracket_j H) P Q h) a b f
      ∙ sym (rotate_is H b Q (rotate H a P f) ∙ ap (rot S Sr b (J H Q)) (rotate_is H a P f))

  pub swap : (a b : Eighth) (P Q : W) → Commute H P Q → (plain a P ∷ plain b Q ∷ []) ≈ (plain b Q ∷ plain a P ∷ [])
  unfolding effect step pow2
  swap a b P Q h o f = ap (λ t. dbl S (dbl S t)) (rotate_comm P Q h a b f)

  -- ---- "Rotations with angle 0 or an identity axis drop out"

  pub drop_zero : (P : W) → (plain (eighth (pos 0)) P ∷ []) ≈ []
  unfolding effect step pow2 rotate
  drop_zero P o f = fun_ext λ R. go (odd (ph P R)) (f R) (J H P f R)
    where
      go : (b : Bool) (a c : C) → rotate_at H b (eighth (pos 0)) a c ≡ dbl K a
      go false a c = refl
      go true a c = add_zer (dbl K a)

  pub drop_unit : (e : Eighth) → (plain e unit ∷ []) ≈ []
  unfolding effect step pow2 rotate
  drop_unit e o f = fun_ext λ R. ap (λ q. rotate_at H (odd q) e (f R) (J H unit f R)) (ph_unit R)
