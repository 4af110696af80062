-- Rotations and items as the effect's operations; angles modulo 8, plain and signed. Assumes nothing.
use Rattle.std.specs.Prelude.{◌≡◌, refl, List, [], ◌∷◌, ◌++◌, map, ℕ, zero, suc, ◌+◌, ◌*◌, ◌/◌, ◌%◌, ◌<◌, pos}
use Rattle.std.proofs.Common.{sym, ◌∙◌, ap, div-add-mod', arith}
use Rattle.std.proofs.lemmas.List.{map-append}
use Rattle.std.proofs.Math.Numerals.{add_eight}
use Rattle.groups.specs.Eighth.{Eighth, e0, e1, e2, e3, e4, e5, e6, e7, next, eighth}
use Rattle.angle.specs.Angle.{pick, signed_angle}
use Rattle.model.specs.Items.{Rot, Item, rotation, barrier}
use Rattle.effect.specs.Effect.{Op, plain}

-- ---- angles

around : (e : Eighth) → next (next (next (next (next (next (next (next e))))))) ≡ e
around e0 = refl
around e1 = refl
around e2 = refl
around e3 = refl
around e4 = refl
around e5 = refl
around e6 = refl
around e7 = refl

eighth_times : (q r : ℕ) → eighth (pos (q * 8 + r)) ≡ eighth (pos r)
eighth_times zero r = let e : 0 * 8 + r ≡ r = omega arith in ap (λ t. eighth (pos t)) e
eighth_times (suc q) r =
    let e : suc q * 8 + r ≡ (q * 8 + r) + 8 = omega arith in
    ap (λ t. eighth (pos t)) (e ∙ add_eight (q * 8 + r)) ∙ around (eighth (pos (q * 8 + r))) ∙ eighth_times q r

-- "an angle counts eighths modulo 8"
pub eighth_mod : (n : ℕ) → eighth (pos (n % 8)) ≡ eighth (pos n)
eighth_mod n = sym (eighth_times (n / 8) (n % 8)) ∙ ap (λ t. eighth (pos t)) (div-add-mod' n 8)

-- "remainder 0 to 7 stands for 0, 1, 2, 3, 4, -3, -2, -1"
pub eighth_signed : (k : ℕ) → k < 8 → eighth (signed_angle k) ≡ eighth (pos k)
unfolding signed_angle pick
eighth_signed zero h = refl
eighth_signed (suc zero) h = refl
eighth_signed (suc (suc zero)) h = refl
eighth_signed (suc (suc (suc zero))) h = refl
eighth_signed (suc (suc (suc (suc zero)))) h = refl
eighth_signed (suc (suc (suc (suc (suc zero))))) h = refl
eighth_signed (suc (suc (suc (suc (suc (suc zero)))))) h = refl
eighth_signed (suc (suc (suc (suc (suc (suc (suc zero))))))) h = refl
eighth_signed (suc (suc (suc (suc (suc (suc (suc (suc k)))))))) h = absurd (omega arith)

-- ---- operations: an axis' word by its id, and what a barrier (the operation's index, its axis by id, its sign) stands for

module _ {W : Type 0} (word : ℕ → W) where
  -- a rotation by its angle in eighths about its axis' word
  abbrev pub rot_op : Rot → Op W
  rot_op r = plain (eighth (pos r.angle)) (word r.axis)

  -- one by one
  abbrev pub rot_ops : List Rot → List (Op W)
  rot_ops rots = map rot_op rots

  -- one list behind the other
  pub rot_ops_append : (g h : List Rot) → rot_ops (g ++ h) ≡ rot_ops g ++ rot_ops h
  rot_ops_append g h = map-append rot_op g h

  -- a rotation, or what `barrierOp` says
  abbrev pub item_op : (ℕ → ℕ → ℕ → Op W) → Item → Op W
  item_op barrier_op (rotation r) = rot_op r
  item_op barrier_op (barrier o a s) = barrier_op o a s

  -- one by one
  abbrev pub item_ops : (ℕ → ℕ → ℕ → Op W) → List Item → List (Op W)
  item_ops barrier_op items = map (item_op barrier_op) items

  -- one list behind the other
  pub item_ops_append : (barrier_op : ℕ → ℕ → ℕ → Op W) (is js : List Item)
      → item_ops barrier_op (is ++ js) ≡ item_ops barrier_op is ++ item_ops barrier_op js
  item_ops_append barrier_op is js = map-append (item_op barrier_op) is js

  -- items that are all rotations
  pub item_ops_rotations : (barrier_op : ℕ → ℕ → ℕ → Op W) (g : List Rot) → item_ops barrier_op (map rotation g) ≡ rot_ops g
  item_ops_rotations barrier_op [] = refl
  item_ops_rotations barrier_op (r ∷ g) = ap (λ X. rot_op r ∷ X) (item_ops_rotations barrier_op g)
