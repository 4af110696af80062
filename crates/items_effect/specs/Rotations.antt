-- Lists of rotations with equal effects: a part can be replaced, zeros drop out; a rotation moves over those that it commutes with, and merges.
-- Assumes nothing.
use Rattle.std.specs.Prelude.{◌≡◌, ℕ, ◌+◌, ◌%◌, pos}
use Rattle.std.proofs.Common.{◌∙◌, ap}
use Rattle.std.proofs.Math.Bool.{false}
use mathlib.Core.List.{List, [], ◌∷◌, ◌++◌}
use borrow.Author.Tests.{eqb-true, not-false}
use Rattle.groups.specs.Eighth.{eighth}
use Rattle.model.specs.Lists.{keep}
use Rattle.model.specs.Items.{Rot, rot, is_nonzero, drop_zero_rots}
use Rattle.theory.specs.Cases.{on_if}
use Rattle.theory.specs.Every.{Every}
use Rattle.effect.specs.Phase.{odd, odd_neg}
use Rattle.effect.specs.Words.{Setting}
use Rattle.effect.specs.Effect.{Op}
use Rattle.effect.specs.Effect as Effect
use Rattle.effect.specs.Generators.{Commute}
use Rattle.effect.proofs.Equal.{≈-refl, ≈-sym, ≈-trans, ≈-cons, ≈-after, drop_zero}
use Rattle.effect.specs.Reach.{AllPass}
use Rattle.effect.proofs.Reach.{merge_at, to_end}
use Rattle.items_effect.specs.Ops.{eighth_mod, rot_op, rot_ops, rot_ops_append}

module _ (H : Setting) (word : ℕ → H.words.W) where
  open H use {words as Ws}
  open Ws use {W, ph, ph_swap}

  abbrev ops : List Rot → List (Op W)
  ops g = rot_ops word g

  -- ---- rotations with equal effects: an equivalence

  infix 20 ◌≋◌
  abbrev pub ◌≋◌ : List Rot → List Rot → Type 0
  g ≋ h = Effect.◌≈◌ H (rot_ops word g) (rot_ops word h)

  pub ≋-refl : (g : List Rot) → g ≋ g
  ≋-refl g = ≈-refl H (ops g)

  pub ≋-sym : (g h : List Rot) → g ≋ h → h ≋ g
  ≋-sym g h e = ≈-sym H (ops g) (ops h) e

  pub ≋-trans : (g h k : List Rot) → g ≋ h → h ≋ k → g ≋ k
  ≋-trans g h k e f = ≈-trans H (ops g) (ops h) (ops k) e f

  -- behind the same rotation
  pub ≋-cons : (r : Rot) (g h : List Rot) → g ≋ h → (r ∷ g) ≋ (r ∷ h)
  ≋-cons r g h e = ≈-cons H (rot_op word r) (ops g) (ops h) e

  -- with the same rotations before
  pub ≋-before : (k g h : List Rot) → g ≋ h → (k ++ g) ≋ (k ++ h)
  ≋-before [] g h e = e
  ≋-before (r ∷ k) g h e = ≋-cons r (k ++ g) (k ++ h) (≋-before k g h e)

  -- with the same rotations after
  pub ≋-after : (g h k : List Rot) → g ≋ h → (g ++ k) ≋ (h ++ k)
  ≋-after g h k e = rw (rot_ops_append word g k, rot_ops_append word h k) (≈-after H (ops g) (ops h) (ops k) e)

  -- lists that are equal to lists with equal effects
  pub ≋-along : {g g' h h' : List Rot} → g ≡ g' → h ≡ h' → g' ≋ h' → g ≋ h
  ≋-along {g} {g'} {h} {h'} e f k = rw (e, f) k

  -- equal lists
  pub ≋-eq : (g h : List Rot) → g ≡ h → g ≋ h
  ≋-eq g h e = rw e (≋-refl h)

  -- ---- "Zeros are removed"

  -- a rotation by 0 does nothing, whatever its axis
  pub zero_nothing : (r : Rot) → r.angle ≡ 0 → (r ∷ []) ≋ []
  zero_nothing r e = rw e (drop_zero H (word r.axis))

  -- and so rotations without their zeros have the same effect
  pub drop_zero_rots_effect : (g : List Rot) → drop_zero_rots g ≋ g
  unfolding drop_zero_rots keep
  drop_zero_rots_effect [] = ≋-refl []
  drop_zero_rots_effect (r ∷ g) =
      on_if (λ (k : List Rot). k ≋ (r ∷ g)) _ _ _ (λ e. ≋-cons r (keep is_nonzero g) g (drop_zero_rots_effect g))
      (λ e. ≋-trans (keep is_nonzero g) g (r ∷ g) (drop_zero_rots_effect g)
      (≋-sym (r ∷ g) g (≋-after (r ∷ []) [] g (zero_nothing r (zero_angle e)))))
    where
      zero_angle : is_nonzero r ≡ false → r.angle ≡ 0
      zero_angle e = eqb-true r.angle 0 (not-false _ e)

  -- ---- rotations that commute

  -- x commutes with r
  abbrev pub Commutes : Rot → Rot → Type 0
  Commutes r x = Commute H (word x.axis) (word r.axis)

  -- then r commutes with x
  pub commutes_sym : (r x : Rot) → Commutes r x → Commutes x r
  commutes_sym r x h = ap odd (ph_swap (word x.axis) (word r.axis)) ∙ odd_neg (ph (word x.axis) (word r.axis)) ∙ h

  passes : (r : Rot) (g : List Rot) → Every (Commutes r) g → AllPass H (word r.axis) (ops g)
  passes r [] h = tt
  passes r (x ∷ g) h = (h.0, passes r g h.1)

  -- a rotation moves over those that commute with it
  pub moves : (r : Rot) (g h : List Rot) → Every (Commutes r) h → (g ++ (r ∷ h)) ≋ ((g ++ h) ++ (r ∷ []))
  moves r g h c =
      rw (rot_ops_append word g (r ∷ h), rot_ops_append word (g ++ h) (r ∷ []), rot_ops_append word g h)
      (to_end H (eighth (pos r.angle)) (word r.axis) (ops g) (ops h) (passes r h c))

  -- ---- "an equal axis merges"

  -- a rotation merges into one about its axis, over those that commute with it
  pub merges : (d r : Rot) (g : List Rot) → d.axis ≡ r.axis → Every (Commutes r) g
      → (rot d.axis ((d.angle + r.angle) % 8) ∷ g) ≋ ((d ∷ g) ++ (r ∷ []))
  merges d r g e c = ≋-sym ((d ∷ g) ++ (r ∷ [])) (rot d.axis ((d.angle + r.angle) % 8) ∷ g) joined
    where
      clear : AllPass H (word d.axis) (ops g)
      clear = rw e (passes r g c)

      joined : ((d ∷ g) ++ (r ∷ [])) ≋ (rot d.axis ((d.angle + r.angle) % 8) ∷ g)
      joined =
          rw (rot_ops_append word g (r ∷ []), eighth_mod (d.angle + r.angle), ← e)
          (merge_at H (pos d.angle) (pos r.angle) (word d.axis) [] (ops g) clear)
