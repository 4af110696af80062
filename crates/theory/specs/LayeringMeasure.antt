-- Layering leaves no more than was there, by any measure of angles. Assumes nothing.
use Rattle.std.specs.Prelude.{◌≡◌, Bool}
use Rattle.std.proofs.Math.Path.{refl}
use Rattle.std.proofs.Math.Bool.{true, false}
use mathlib.Core.List.{List, [], ◌∷◌, ◌++◌, map, flatten}
use Prim.Native.Nat.{ℕ, zero, suc, ◌+◌, ◌%◌, ◌≤◌}
use Rattle.std.proofs.Math.Nat.{le_refl, le_trans}
use native.Mathlib.Omega.{arith}
use Rattle.model.specs.Lists.{keep, sum_of}
use Rattle.model.specs.Items.{Rot, rot, is_nonzero, drop_zero_rots}
use Rattle.model.specs.Layering.{merge_into, Layers, Shift, join_layer, join_layers, move_rotation, move_rotations, sweep_from, sweep, drop_zero_layers}
use Rattle.model.specs.Layering.{sweeps_from}
use Rattle.model.specs.Layering.{height, layer_segment}
use Rattle.model.specs.Rounds.{Work, layering_pass}
use Rattle.theory.specs.Cases.{by_if}
use Rattle.theory.specs.Lists.{sum_of_one, sum_of_keep}
use Rattle.theory.specs.Measure.{Measure, size_of, size_of_rots, rots_nil, rots_one, rots_cons, rots_keep, rots_flatten}
use Rattle.theory.specs.ExchangeMeasure.{rewrite_segments_no_more}

module _ (m : ℕ → ℕ) (law : Measure m) where
  merge_into_no_more : (layer : List Rot) (r : Rot) → size_of_rots m (merge_into layer r) ≤ size_of_rots m layer + m r.angle
  unfolding merge_into
  merge_into_no_more [] r = omega (arith, rots_cons m r [], rots_nil m)
  merge_into_no_more (x ∷ layer) r =
      let joined = rot x.axis ((x.angle + r.angle) % 8) in
      by_if (λ (y : List Rot). size_of_rots m y ≤ size_of_rots m (x ∷ layer) + m r.angle) _ _ _
      (omega (arith, rots_cons m joined layer, rots_cons m x layer, law.merge x.angle r.angle))
      (omega (arith, rots_cons m x (merge_into layer r), rots_cons m x layer, merge_into_no_more layer r))

  -- the measure of layers
  unfoldable pub size_of_layers : List (List Rot) → ℕ
  size_of_layers = sum_of (size_of_rots m)

  layers_one : (ls : List (List Rot)) (layer : List Rot) → size_of_layers (ls ++ (layer ∷ [])) ≡ size_of_layers ls + size_of_rots m layer
  unfolding size_of_layers
  layers_one ls layer = sum_of_one (size_of_rots m) ls layer

  layers_cons : (layer : List Rot) (ls : List (List Rot)) → size_of_layers (layer ∷ ls) ≡ size_of_rots m layer + size_of_layers ls
  unfolding size_of_layers sum_of
  layers_cons layer ls = refl

  layers_nil : size_of_layers [] ≡ 0
  unfolding size_of_layers sum_of
  layers_nil = refl

  module _ (l : ℕ) (axes : List (List ℕ)) where
    join_layer_no_more : (s : Layers) (r : Rot)
        → size_of_layers (join_layer l axes s r).done + size_of_rots m (join_layer l axes s r).layer ≤ size_of_layers s.done + size_of_rots m
        s.layer + m
        r.angle
    unfolding join_layer
    join_layer_no_more s r =
        by_if (λ (x : Layers). size_of_layers x.done + size_of_rots m x.layer ≤ size_of_layers s.done + size_of_rots m s.layer + m
        r.angle) _ _ _
        (omega (arith, merge_into_no_more s.layer r)) (omega (arith, layers_one s.done s.layer, rots_cons m r [], rots_nil m))

    join_layers_no_more : (s : Layers) (rs : List Rot)
        → size_of_layers (join_layers l axes s rs).done + size_of_rots m (join_layers l axes s rs).layer ≤ size_of_layers s.done + size_of_rots m
        s.layer + size_of_rots m rs
    unfolding join_layers
    join_layers_no_more s [] = omega arith
    join_layers_no_more s (r ∷ rs) = omega (arith, join_layer_no_more s r, join_layers_no_more (join_layer l axes s r) rs, rots_cons m r rs)

    move_rotation_no_more : (s : Shift) (r : Rot)
        → size_of_rots m (move_rotation l axes s r).layer + size_of_rots m (move_rotation l axes s r).stay ≤ size_of_rots m
        s.layer + size_of_rots m s.stay + m
        r.angle
    unfolding move_rotation
    move_rotation_no_more s r =
        by_if (λ (x : Shift). size_of_rots m x.layer + size_of_rots m x.stay ≤ size_of_rots m s.layer + size_of_rots m s.stay + m
        r.angle) _ _ _
        (omega (arith, merge_into_no_more s.layer r)) (omega (arith, rots_one m s.stay r))

    move_rotations_no_more : (s : Shift) (rs : List Rot)
        → size_of_rots m (move_rotations l axes s rs).layer + size_of_rots m (move_rotations l axes s rs).stay ≤ size_of_rots m s.layer + size_of_rots m
        s.stay + size_of_rots m rs
    unfolding move_rotations
    move_rotations_no_more s [] = omega arith
    move_rotations_no_more s (r ∷ rs) =
        omega (arith, move_rotation_no_more s r, move_rotations_no_more (move_rotation l axes s r) rs, rots_cons m r rs)

    sweep_from_no_more : (layer : List Rot) (n : ℕ) (b : Bool) (ls : List (List Rot)) → size_of_layers
        (sweep_from l axes layer n b ls).layers ≤ size_of_rots m layer + size_of_layers ls
    unfolding sweep_from
    sweep_from_no_more layer n b [] = omega (arith, layers_cons layer [], layers_nil)
    sweep_from_no_more layer n b (next ∷ ls) =
        let s : Shift = record { layer = layer; stay = []; merged = n; moved = b } in
        let q = move_rotations l axes s next in
        let r = sweep_from l axes q.stay q.merged q.moved ls in
        omega (
          arith,
          move_rotations_no_more s next,
          sweep_from_no_more q.stay q.merged q.moved ls,
          layers_cons q.layer r.layers,
          layers_cons next ls,
          rots_nil m,
        )

    sweep_no_more : (n : ℕ) (ls : List (List Rot)) → size_of_layers (sweep l axes n ls).layers ≤ size_of_layers ls
    unfolding sweep
    sweep_no_more n [] = le_refl _
    sweep_no_more n (layer ∷ ls) = omega (arith, sweep_from_no_more layer n false ls, layers_cons layer ls, layers_nil)

    dropped : (layer : List Rot) → size_of_rots m (drop_zero_rots layer) ≤ size_of_rots m layer
    unfolding drop_zero_rots
    dropped layer = rots_keep m is_nonzero layer

    kept : (f : List Rot → Bool) (ls : List (List Rot)) → size_of_layers (keep f ls) ≤ size_of_layers ls
    unfolding size_of_layers
    kept f ls = sum_of_keep (size_of_rots m) f ls

    zeros_no_more : (ls : List (List Rot)) → size_of_layers (map drop_zero_rots ls) ≤ size_of_layers ls
    unfolding size_of_layers sum_of
    zeros_no_more [] = le_refl _
    zeros_no_more (layer ∷ ls) = omega (arith, zeros_no_more ls, dropped layer)

    drop_zero_layers_no_more : (ls : List (List Rot)) → size_of_layers (drop_zero_layers ls) ≤ size_of_layers ls
    unfolding drop_zero_layers
    drop_zero_layers_no_more ls = le_trans (kept _ (map drop_zero_rots ls)) (zeros_no_more ls)

    flatten_same : (ls : List (List Rot)) → size_of_rots m (flatten ls) ≡ size_of_layers ls
    unfolding size_of_layers
    flatten_same ls = rots_flatten m ls

    sweeps_from_no_more : (k : ℕ) (going : Bool) (n : ℕ) (ls : List (List Rot))
        → size_of_rots m (sweeps_from l axes k going n ls).rots ≤ size_of_layers ls
    unfolding sweeps_from
    sweeps_from_no_more zero going n ls = omega (arith, flatten_same ls)
    sweeps_from_no_more (suc k) false n ls = omega (arith, flatten_same ls)
    sweeps_from_no_more (suc k) true n ls =
        let s = sweep l axes n ls in
        omega (
          arith,
          sweeps_from_no_more k s.moved s.merged (drop_zero_layers s.layers),
          drop_zero_layers_no_more
              s.layers,
          sweep_no_more n ls,
        )

    -- layers of a segment
    pub layer_segment_no_more : (rots : List Rot) → size_of_rots m (layer_segment l axes rots).rots ≤ size_of_rots m rots
    unfolding layer_segment
    layer_segment_no_more [] = le_refl _
    layer_segment_no_more (r ∷ rest) =
        let z : Layers = record { done = []; layer = r ∷ []; merged = 0 } in
        let s = join_layers l axes z rest in
        let ls = s.done ++ (s.layer ∷ []) in
        omega (
          arith,
          sweeps_from_no_more (suc (height ls)) true s.merged ls,
          layers_one s.done s.layer,
          join_layers_no_more z rest,
          layers_nil,
          rots_cons m r [],
          rots_cons m r rest,
          rots_nil m,
        )

  -- a layering pass
  pub layering_pass_no_more : (l : ℕ) (w : Work) → size_of m (layering_pass l w).items ≤ size_of m w.items
  unfolding layering_pass
  layering_pass_no_more l w = rewrite_segments_no_more m law _ (layer_segment_no_more l w.store.axes) w.items
