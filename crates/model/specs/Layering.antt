-- 01, "litinski.rs": layers. Assumes nothing.
use Rattle.std.specs.Prelude.{Bool, true, false, not, ℕ, zero, suc, ◌+◌, ◌%◌, eqb, length}
use mathlib.Core.List.{List, [], ◌∷◌, ◌++◌, map, flatten}
use Rattle.model.specs.Lists.{when◌then◌else◌, all_of, any_of, keep, sum_of, is_empty}
use Rattle.model.specs.Words.{anticommute}
use Rattle.model.specs.Items.{Rot, rot, drop_zero_rots, Segment}

-- "an equal axis merges": the first one takes r in, else r is laid at the end
unfoldable pub merge_into : List Rot → Rot → List Rot
merge_into [] r = r ∷ []
merge_into (x ∷ layer) r = when eqb x.axis r.axis then rot x.axis ((x.angle + r.angle) % 8) ∷ layer else x ∷ merge_into layer r

-- 1 if r merges, 0 if it is laid at the end
unfoldable pub merges_in : List Rot → Rot → ℕ
merges_in layer r = when any_of (λ (x : Rot). eqb x.axis r.axis) layer then 1 else 0

-- the layers before, the last one, and how many rotations have merged
pub record Layers : Type 0 where
  pub done : List (List Rot)
  pub layer : List Rot
  pub merged : ℕ

-- a layer and the next one: what has moved into the first, and what stays in the second
pub record Shift : Type 0 where
  pub layer : List Rot
  pub stay : List Rot
  pub merged : ℕ
  pub moved : Bool

pub record Swept : Type 0 where
  pub layers : List (List Rot)
  pub merged : ℕ
  pub moved : Bool

module _ (l : ℕ) (axes : List (List ℕ)) where
  unfoldable pub commutes_with_all : List Rot → Rot → Bool
  commutes_with_all layer r = all_of (λ (x : Rot). not (anticommute l axes x.axis r.axis)) layer

  -- "A rotation joins the last layer if it commutes with all of it, else opens one"
  unfoldable pub join_layer : Layers → Rot → Layers
  join_layer s r =
      when commutes_with_all s.layer r then
      record { done = s.done; layer = merge_into s.layer r; merged = s.merged + merges_in s.layer r } else
      record { done = s.done ++ (s.layer ∷ []); layer = r ∷ []; merged = s.merged }

  unfoldable pub join_layers : Layers → List Rot → Layers
  join_layers s [] = s
  join_layers s (r ∷ rest) = join_layers (join_layer s r) rest

  -- ---- "Sweeps then move rotations to the layer before until none moves"

  unfoldable pub move_rotation : Shift → Rot → Shift
  move_rotation s r =
      when commutes_with_all s.layer r then
      record { layer = merge_into s.layer r; stay = s.stay; merged = s.merged + merges_in s.layer r; moved = true } else
      record { layer = s.layer; stay = s.stay ++ (r ∷ []); merged = s.merged; moved = s.moved }

  unfoldable pub move_rotations : Shift → List Rot → Shift
  move_rotations s [] = s
  move_rotations s (r ∷ next) = move_rotations (move_rotation s r) next

  -- the layer that rotations move into, and the layers after it
  unfoldable pub sweep_from : List Rot → ℕ → Bool → List (List Rot) → Swept
  sweep_from layer merged moved [] = record { layers = layer ∷ []; merged = merged; moved = moved }
  sweep_from layer merged moved (next ∷ rest) =
      let s = move_rotations (record { layer = layer; stay = []; merged = merged; moved = moved }) next in
      let swept = sweep_from s.stay s.merged s.moved rest in
      record { layers = s.layer ∷ swept.layers; merged = swept.merged; moved = swept.moved }

  unfoldable pub sweep : ℕ → List (List Rot) → Swept
  sweep merged [] = record { layers = []; merged = merged; moved = false }
  sweep merged (layer ∷ rest) = sweep_from layer merged false rest

-- "zeros leave at a sweep's end", and with them layers that are empty
unfoldable pub drop_zero_layers : List (List Rot) → List (List Rot)
drop_zero_layers ls = keep (λ layer. not (is_empty layer)) (map drop_zero_rots ls)

module _ (l : ℕ) (axes : List (List ℕ)) where
  -- "until none moves": `going` says that the last sweep moved one
  unfoldable pub sweeps_from : ℕ → Bool → ℕ → List (List Rot) → Segment
  sweeps_from zero going merged ls = record { rots = flatten ls; changes = merged }
  sweeps_from (suc fuel) false merged ls = record { rots = flatten ls; changes = merged }
  sweeps_from (suc fuel) true merged ls =
      let s = sweep l axes merged ls in
      sweeps_from fuel s.moved s.merged (drop_zero_layers s.layers)

-- the sum of the rotations' layer numbers, from 0: each move lowers it, so it bounds the sweeps
unfoldable pub height : List (List Rot) → ℕ
height [] = 0
height (layer ∷ rest) = sum_of length rest + height rest

unfoldable pub layer_segment : ℕ → List (List ℕ) → List Rot → Segment
layer_segment l axes [] = record { rots = []; changes = 0 }
layer_segment l axes (r ∷ rest) =
    let s = join_layers l axes (record { done = []; layer = r ∷ []; merged = 0 }) rest in
    let layers = s.done ++ (s.layer ∷ []) in
    sweeps_from l axes (suc (height layers)) true s.merged layers
