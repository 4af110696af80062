-- Litinski's sweeps end: each that moves a rotation lowers the height, so the model makes enough of them. Assumes nothing.
use Rattle.std.specs.Prelude.{◌≡◌, Bool}
use Rattle.std.proofs.Math.Path.{refl}
use Rattle.std.proofs.Common.{sym, ◌∙◌, true≢false}
use Rattle.std.proofs.Math.Bool.{true, false}
use mathlib.Core.List.{List, [], ◌∷◌, map, flatten}
use Prim.Native.Nat.{ℕ, zero, suc, ◌+◌, ◌≤◌, ◌<◌}
use Rattle.std.proofs.Math.Nat.{le_refl, le_trans}
use native.Mathlib.Omega.{arith}
use Rattle.std.proofs.Math.ListN.{length, length-append}
use Rattle.model.specs.Lists.{keep, sum_of}
use Rattle.model.specs.Items.{Rot, drop_zero_rots}
use Rattle.model.specs.Layering.{merge_into, Shift, Swept, move_rotation, move_rotations, sweep_from, sweep, drop_zero_layers, sweeps_from, height}
use Rattle.theory.specs.Cases.{by_if}

le_lt : {a b c : ℕ} → a ≤ b → b < c → a < c
le_lt h g = omega arith

pub merge_into_length : (layer : List Rot) (r : Rot) → length (merge_into layer r) ≤ suc (length layer)
unfolding merge_into
merge_into_length [] r = le_refl _
merge_into_length (x ∷ layer) r =
    by_if (λ (y : List Rot). length y ≤ suc (suc (length layer))) _ _ _ (omega arith) (omega (arith, merge_into_length layer r))

-- k rotations were looked at: none is lost or made, and fewer stay if one moved
record Fell (s q : Shift) (k : ℕ) : Type 0 where
  both : length q.layer + length q.stay ≤ length s.layer + length s.stay + k
  stays : length q.stay ≤ length s.stay + k
  less : q.moved ≡ true → s.moved ≡ false → length q.stay < length s.stay + k

-- b became c: x ≤ y, and less if it turned true
pub record Lower (b c : Bool) (x y : ℕ) : Type 0 where
  pub le : x ≤ y
  pub lt : c ≡ true → b ≡ false → x < y

module _ (l : ℕ) (axes : List (List ℕ)) where
  move_rotation_fell : (s : Shift) (r : Rot) → Fell s (move_rotation l axes s r) 1
  unfolding move_rotation
  move_rotation_fell s r =
      by_if (λ (q : Shift). Fell s q 1) _ _ _
      (record { both = omega (arith, merge_into_length s.layer r); stays = omega arith; less = λ e f. omega arith })
      (record {
        both = omega (arith, length-append s.stay (r ∷ []));
        stays = omega (arith, length-append s.stay (r ∷ []));
        less = λ e f. absurd (true≢false (sym e ∙ f));
      })

  move_rotations_fell : (s : Shift) (rs : List Rot) → Fell s (move_rotations l axes s rs) (length rs)
  unfolding move_rotations
  move_rotations_fell s [] = record { both = omega arith; stays = omega arith; less = λ e f. absurd (true≢false (sym e ∙ f)) }
  move_rotations_fell s (r ∷ rs) = go (move_rotation_fell s r) (move_rotations_fell (move_rotation l axes s r) rs)
    where
      go : Fell s (move_rotation l axes s r) 1 → Fell (move_rotation l axes s r) (move_rotations l axes (move_rotation l axes s r) rs) (length rs)
          → Fell s (move_rotations l axes (move_rotation l axes s r) rs) (suc (length rs))
      go a b = record {
        both = omega (arith, a.both, b.both);
        stays = omega (arith, a.stays, b.stays);
        less = λ e f. late (move_rotation l axes s r).moved refl e f;
      }
        where
          late : (t : Bool) → (move_rotation l axes s r).moved ≡ t → (move_rotations l axes (move_rotation l axes s r) rs).moved ≡ true
              → s.moved ≡ false
              → length (move_rotations l axes (move_rotation l axes s r) rs).stay < length s.stay + suc (length rs)
          late true g e f = omega (arith, a.less g f, b.stays)
          late false g e f = omega (arith, a.stays, b.less e g)

  sweep_from_size : (layer : List Rot) (m : ℕ) (b : Bool) (ls : List (List Rot))
      → sum_of length (sweep_from l axes layer m b ls).layers ≤ length layer + sum_of length ls
  unfolding sweep_from sum_of
  sweep_from_size layer m b [] = omega arith
  sweep_from_size layer m b (next ∷ ls) =
      let s : Shift = record { layer = layer; stay = []; merged = m; moved = b } in
      let q = move_rotations l axes s next in
      omega (arith, (move_rotations_fell s next).both, sweep_from_size q.stay q.merged q.moved ls)

  sweep_from_lower : (layer : List Rot) (m : ℕ) (b : Bool) (ls : List (List Rot))
      → Lower b (sweep_from l axes layer m b ls).moved (height (sweep_from l axes layer m b ls).layers) (height (layer ∷ ls))
  unfolding sweep_from sum_of height
  sweep_from_lower layer m b [] = record { le = le_refl _; lt = λ e f. absurd (true≢false (sym e ∙ f)) }
  sweep_from_lower layer m b (next ∷ ls) =
      let s : Shift = record { layer = layer; stay = []; merged = m; moved = b } in
      let q = move_rotations l axes s next in
      go q (move_rotations_fell s next) (sweep_from_size q.stay q.merged q.moved ls) (sweep_from_lower q.stay q.merged q.moved ls)
    where
      go : (q : Shift) → Fell (record { layer = layer; stay = []; merged = m; moved = b }) q (length next)
          → (let z = sweep_from l axes q.stay q.merged q.moved ls in sum_of length z.layers ≤ length q.stay + sum_of length ls)
          → (let z = sweep_from l axes q.stay q.merged q.moved ls in
          Lower q.moved z.moved (height z.layers) (height (q.stay ∷ ls)))
          → (let z = sweep_from l axes q.stay q.merged q.moved ls in
          Lower b z.moved (sum_of length z.layers + height z.layers) (length next + sum_of length ls + height (next ∷ ls)))
      go q f size h = record { le = omega (arith, f.stays, h.le); lt = λ e g. late q.moved refl e g }
        where
          z : Swept
          z = sweep_from l axes q.stay q.merged q.moved ls

          late : (t : Bool) → q.moved ≡ t → z.moved ≡ true → b ≡ false
              → sum_of length z.layers + height z.layers < length next + sum_of length ls + height (next ∷ ls)
          late true g e k = omega (arith, f.less g k, h.le)
          late false g e k = omega (arith, f.stays, h.lt e g)

  -- a sweep that moves a rotation lowers the height
  pub sweep_lower : (m : ℕ) (ls : List (List Rot)) → Lower false (sweep l axes m ls).moved (height (sweep l axes m ls).layers) (height ls)
  unfolding sweep
  sweep_lower m [] = record { le = le_refl _; lt = λ e f. absurd (true≢false (sym e)) }
  sweep_lower m (layer ∷ ls) = sweep_from_lower layer m false ls

  -- ---- dropping zeros and empty layers does not raise it

  dropped : (layer : List Rot) → length (drop_zero_rots layer) ≤ length layer
  unfolding drop_zero_rots keep
  dropped [] = le_refl _
  dropped (x ∷ layer) = by_if (λ (y : List Rot). length y ≤ suc (length layer)) _ _ _ (omega (arith, dropped layer)) (omega (arith, dropped layer))

  record Small (xs ys : List (List Rot)) : Type 0 where
    size : sum_of length xs ≤ sum_of length ys
    high : height xs ≤ height ys

  zeros_small : (ls : List (List Rot)) → Small (map drop_zero_rots ls) ls
  unfolding sum_of height
  zeros_small [] = record { size = le_refl _; high = le_refl _ }
  zeros_small (layer ∷ ls) =
      let h = zeros_small ls in
      record { size = omega (arith, dropped layer, h.size); high = omega (arith, h.size, h.high) }

  keep_small : (f : List Rot → Bool) (ls : List (List Rot)) → Small (keep f ls) ls
  unfolding keep sum_of height
  keep_small f [] = record { size = le_refl _; high = le_refl _ }
  keep_small f (layer ∷ ls) =
      let h = keep_small f ls in
      by_if (λ (x : List (List Rot)). Small x (layer ∷ ls)) _ _ _
      (record { size = omega (arith, h.size); high = omega (arith, h.size, h.high) })
      (record { size = omega (arith, h.size); high = omega (arith, h.high) })

  pub drop_zero_layers_height : (ls : List (List Rot)) → height (drop_zero_layers ls) ≤ height ls
  unfolding drop_zero_layers
  drop_zero_layers_height ls = le_trans (keep_small _ (map drop_zero_rots ls)).high (zeros_small ls).high

  -- ---- the theorem

  pub sweeps_stopped : (k m : ℕ) (ls : List (List Rot)) → sweeps_from l axes k false m ls ≡ record { rots = flatten ls; changes = m }
  unfolding sweeps_from
  sweeps_stopped zero m ls = refl
  sweeps_stopped (suc k) m ls = refl

  -- so more sweeps than the height change nothing
  pub sweeps_enough : (k k' m : ℕ) (ls : List (List Rot)) → height ls < k → height ls < k'
      → sweeps_from l axes k true m ls ≡ sweeps_from l axes k' true m ls
  unfolding sweeps_from
  sweeps_enough zero k' m ls h h' = absurd (omega arith)
  sweeps_enough (suc k) zero m ls h h' = absurd (omega arith)
  sweeps_enough (suc k) (suc k') m ls h h' =
      go (sweep l axes m ls).moved refl (λ a b. sweeps_enough k k' (sweep l axes m ls).merged (drop_zero_layers (sweep l axes m ls).layers) a b)
    where
      q : Swept
      q = sweep l axes m ls

      ls' : List (List Rot)
      ls' = drop_zero_layers q.layers

      go : (t : Bool) → q.moved ≡ t
          → (height ls' < k → height ls' < k' → sweeps_from l axes k true q.merged ls' ≡ sweeps_from l axes k' true q.merged ls')
          → sweeps_from l axes k q.moved q.merged ls' ≡ sweeps_from l axes k' q.moved q.merged ls'
      go true e ih =
          let b : height ls' < height ls = le_lt (drop_zero_layers_height q.layers) ((sweep_lower m ls).lt e refl) in
          rw e (ih (omega arith) (omega arith))
      go false e ih = rw e (sweeps_stopped k q.merged ls' ∙ sym (sweeps_stopped k' q.merged ls'))
