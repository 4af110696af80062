-- Items as operations: a rotation slides over the rotations that it commutes with and over zeros; zeros are removed. Assumes nothing.
use Rattle.std.specs.Prelude.{◌≡◌, ◌⊎◌, Bool, ℕ, ◌+◌, ◌%◌, pos, ◌+ℤ◌}
use Rattle.std.proofs.Math.Path.{refl}
use Rattle.std.proofs.Common.{sym, ◌∙◌, ap, subst, inl, inr, true≢false}
use Rattle.std.proofs.Math.Bool.{true, false, not}
use mathlib.Core.List.{List, [], ◌∷◌, ◌++◌, map-append, append_assoc}
use Rattle.std.proofs.Math.Dec.{eqb}
use Rattle.std.proofs.Math.IntN.{pos-+ℤ-pos}
use borrow.Author.Tests.{eqb-true}
use Rattle.groups.specs.Eighth.{Eighth, eighth}
use Rattle.model.specs.Lists.{when◌then◌else◌, keep}
use Rattle.model.specs.Items.{Rot, rot, Item, rotation, barrier, is_nonzero, drop_zeros}
use Rattle.theory.specs.Cases.{on_if}
use Rattle.theory.specs.Every.{Every}
use Rattle.effect.specs.Words.{Setting}
use Rattle.effect.specs.Effect.{Op, plain}
use Rattle.effect.specs.Effect as Effect
use Rattle.effect.specs.Generators.{Commute}
use Rattle.effect.proofs.Equal.{≈-refl, ≈-sym, ≈-trans, ≈-cons, ≈-before, ≈-after, merge, swap, drop_zero}
use Rattle.items_effect.specs.Ops.{eighth_mod, item_op, item_ops}

module _ (H : Setting) (word : ℕ → H.words.W) (barrier_op : ℕ → ℕ → ℕ → Op H.words.W) where
  open H use {words as Ws}
  open Ws use {W}

  infix 20 ◌≈◌
  abbrev ◌≈◌ : List (Op W) → List (Op W) → Type 0
  X ≈ Y = Effect.◌≈◌ H X Y

  abbrev ops : List Item → List (Op W)
  ops is = item_ops word barrier_op is

  -- a rotation as an operation
  abbrev turn : ℕ → W → Op W
  turn k P = plain (eighth (pos k)) P

  ops_append : (xs ys : List Item) → ops (xs ++ ys) ≡ ops xs ++ ops ys
  ops_append xs ys = map-append (item_op word barrier_op) xs ys

  -- ---- sliding

  -- the item is a rotation that a rotation about P slides over
  abbrev pub Lets : W → Item → Type 0
  Lets P (rotation t) = (t.angle ≡ 0) ⊎ Commute H P (word t.axis)
  Lets P (barrier o a s) = ⊥

  zero_after : (e : Eighth) (P Q : W) → (plain e P ∷ turn 0 Q ∷ []) ≈ (plain e P ∷ [])
  zero_after e P Q = ≈-cons H (plain e P) (turn 0 Q ∷ []) [] (drop_zero H Q)

  zero_before : (e : Eighth) (P Q : W) → (turn 0 Q ∷ plain e P ∷ []) ≈ (plain e P ∷ [])
  zero_before e P Q = ≈-after H (turn 0 Q ∷ []) [] (plain e P ∷ []) (drop_zero H Q)

  over_one : (e : Eighth) (P : W) (t : Rot) → Lets P (rotation t)
      → (plain e P ∷ turn t.angle (word t.axis) ∷ []) ≈ (turn t.angle (word t.axis) ∷ plain e P ∷ [])
  over_one e P t (inl z) =
      let Q = word t.axis in
      subst (λ (k : ℕ). (plain e P ∷ turn k Q ∷ []) ≈ (turn k Q ∷ plain e P ∷ [])) (sym z)
      (≈-trans H (plain e P ∷ turn 0 Q ∷ []) (plain e P ∷ []) (turn 0 Q ∷ plain e P ∷ []) (zero_after e P Q)
      (≈-sym H (turn 0 Q ∷ plain e P ∷ []) (plain e P ∷ []) (zero_before e P Q)))
  over_one e P t (inr c) = swap H e (eighth (pos t.angle)) P (word t.axis) c

  -- to the end
  slide : (e : Eighth) (P : W) (is : List Item) → Every (Lets P) is → (plain e P ∷ ops is) ≈ (ops is ++ (plain e P ∷ []))
  slide e P [] h = ≈-refl H (plain e P ∷ [])
  slide e P (rotation t ∷ is) h =
      let x = turn t.angle (word t.axis) in
      ≈-trans H (plain e P ∷ x ∷ ops is) (x ∷ plain e P ∷ ops is) (x ∷ (ops is ++ (plain e P ∷ [])))
      (≈-after H (plain e P ∷ x ∷ []) (x ∷ plain e P ∷ []) (ops is) (over_one e P t h.0))
      (≈-cons H x (plain e P ∷ ops is) (ops is ++ (plain e P ∷ [])) (slide e P is h.1))
  slide e P (barrier o a s ∷ is) h = absurd h.0

  -- a rotation goes to the end, and leaves a zero
  pub lift : (front back : List Item) (a k : ℕ) → Every (Lets (word a)) back
      → ops (front ++ (rotation (rot a k) ∷ back)) ≈ (ops (front ++ (rotation (rot a 0) ∷ back)) ++ (turn k (word a) ∷ []))
  lift front back a k h =
      subst (λ (X : List (Op W)). X ≈ (ops (front ++ (rotation (rot a 0) ∷ back)) ++ (turn k P ∷ [])))
      (sym (ops_append front (rotation (rot a k) ∷ back)))
      (subst (λ (Y : List (Op W)). (ops front ++ (turn k P ∷ ops back)) ≈ Y) (sym ends)
      (≈-before H (ops front) (turn k P ∷ ops back) (turn 0 P ∷ (ops back ++ (turn k P ∷ []))) last))
    where
      P : W
      P = word a

      ends : ops (front ++ (rotation (rot a 0) ∷ back)) ++ (turn k P ∷ []) ≡ ops front ++ (turn 0 P ∷ (ops back ++ (turn k P ∷ [])))
      ends =
          ap (λ (X : List (Op W)). X ++ (turn k P ∷ [])) (ops_append front (rotation (rot a 0) ∷ back))
          ∙ append_assoc (ops front) (turn 0 P ∷ ops back) (turn k P ∷ [])

      last : (turn k P ∷ ops back) ≈ (turn 0 P ∷ (ops back ++ (turn k P ∷ [])))
      last =
          let Z = ops back ++ (turn k P ∷ []) in
          ≈-trans H (turn k P ∷ ops back) Z (turn 0 P ∷ Z) (slide (eighth (pos k)) P back h)
          (≈-sym H (turn 0 P ∷ Z) Z (≈-after H (turn 0 P ∷ []) [] Z (drop_zero H P)))

  -- ---- merging

  merged_angle : (a b : ℕ) → eighth (pos a +ℤ pos b) ≡ eighth (pos ((a + b) % 8))
  merged_angle a b = ap eighth (pos-+ℤ-pos a b) ∙ sym (eighth_mod (a + b))

  -- two rotations about P at the end are one
  pub merge_end : (Y : List (Op W)) (P : W) (k m : ℕ)
      → ((Y ++ (turn k P ∷ [])) ++ (turn m P ∷ [])) ≈ (Y ++ (turn ((k + m) % 8) P ∷ []))
  merge_end Y P k m =
      subst (λ (X : List (Op W)). X ≈ (Y ++ (turn ((k + m) % 8) P ∷ []))) (sym (append_assoc Y (turn k P ∷ []) (turn m P ∷ [])))
      (≈-before H Y (turn k P ∷ turn m P ∷ []) (turn ((k + m) % 8) P ∷ [])
      (subst (λ (e : Eighth). (turn k P ∷ turn m P ∷ []) ≈ (plain e P ∷ [])) (merged_angle k m) (merge H (pos k) (pos m) P)))

  -- a zero at the end is nothing
  pub zero_end : (Y : List (Op W)) (P : W) → (Y ++ (turn 0 P ∷ [])) ≈ Y
  zero_end Y P = subst (λ (X : List (Op W)). (Y ++ (turn 0 P ∷ [])) ≈ X) (nil_end Y) (≈-before H Y (turn 0 P ∷ []) [] (drop_zero H P))
    where
      nil_end : (X : List (Op W)) → X ++ [] ≡ X
      nil_end [] = refl
      nil_end (p ∷ X) = ap (λ (Y : List (Op W)). p ∷ Y) (nil_end X)

  -- ---- "Zeros are removed"

  pub drop_zeros_effect : (is : List Item) → ops (drop_zeros is) ≈ ops is
  unfolding drop_zeros keep when◌then◌else◌
  drop_zeros_effect [] = ≈-refl H []
  drop_zeros_effect (rotation t ∷ is) =
      let x = turn t.angle (word t.axis) in
      on_if (λ (ys : List Item). ops ys ≈ (x ∷ ops is)) (is_nonzero t) (rotation t ∷ drop_zeros is) (drop_zeros is)
      (λ e. ≈-cons H x (ops (drop_zeros is)) (ops is) (drop_zeros_effect is))
      (λ e. ≈-trans H (ops (drop_zeros is)) (ops is) (x ∷ ops is) (drop_zeros_effect is) (≈-sym H (x ∷ ops is) (ops is) (gone e)))
    where
      gone : is_nonzero t ≡ false → (turn t.angle (word t.axis) ∷ ops is) ≈ ops is
      gone e =
          ≈-after H (turn t.angle (word t.axis) ∷ []) [] (ops is)
          (subst (λ (k : ℕ). (turn k (word t.axis) ∷ []) ≈ []) (sym (zero_angle (eqb t.angle 0) refl e)) (drop_zero H (word t.axis)))
        where
          zero_angle : (b : Bool) → eqb t.angle 0 ≡ b → not b ≡ false → t.angle ≡ 0
          zero_angle true z n = eqb-true t.angle 0 z
          zero_angle false z n = absurd (true≢false n)
  drop_zeros_effect (barrier o a s ∷ is) = ≈-cons H (barrier_op o a s) (ops (drop_zeros is)) (ops is) (drop_zeros_effect is)
