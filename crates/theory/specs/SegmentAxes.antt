-- Exchange and layering use only the axes that are there: what holds of every axis of a segment holds of every axis afterwards. Assumes nothing.
use Rattle.std.specs.Prelude.{List, map, ℕ}
use Rattle.model.specs.declared.ExchangeRules.{ExchangeRules}
use Rattle.model.specs.Items.{Rot, Item, drop_zero_rots, Segment, rewrite_segments}
use Rattle.model.specs.Exchange.{swaps}
use Rattle.model.specs.Layering.{Layers, Shift, join_layer, join_layers, move_rotation, move_rotations, sweep, layer_segment}
use Rattle.theory.specs.Every.{Every}
use Rattle.theory.specs.StreamState.{axis_of}
use Rattle.theory.specs.Segments.{KeptByMerging, swaps_by, join_layer_by, join_layers_by, move_rotation_by, move_rotations_by}
use Rattle.theory.specs.Segments.{sweep_by, zeros_by, layer_segment_by, rewrite_segments_every}

-- P is said of axes
module _ (P : ℕ → Type 0) where
  -- P holds of a rotation's axis
  abbrev pub Has : Rot → Type 0
  Has r = P r.axis

  -- of every axis of a segment
  abbrev pub AllHave : List Rot → Type 0
  AllHave = Every Has

  -- a merge keeps the axis
  pub axis_kept : KeptByMerging Has Has
  axis_kept = record { weaken = λ r h. h; merge = λ d r h k. h; nonzero = λ r h e. h }

  -- ---- exchange

  -- the swaps of a segment keep it
  pub swaps_has : (l : ℕ) (axes : List (List ℕ)) (rules : ExchangeRules) (rots : List Rot) → AllHave rots → AllHave (swaps l axes rules rots).rots
  swaps_has = swaps_by Has Has axis_kept

  -- ---- layering

  abbrev pub LayersHave : List (List Rot) → Type 0
  LayersHave = Every AllHave

  module _ (l : ℕ) (axes : List (List ℕ)) where
    abbrev pub JoinedHas : Layers → Type 0
    JoinedHas s = LayersHave s.done × AllHave s.layer

    pub join_layer_has : (s : Layers) (r : Rot) → JoinedHas s → Has r → JoinedHas (join_layer l axes s r)
    join_layer_has = join_layer_by Has Has axis_kept l axes

    pub join_layers_has : (s : Layers) (rs : List Rot) → JoinedHas s → AllHave rs → JoinedHas (join_layers l axes s rs)
    join_layers_has = join_layers_by Has Has axis_kept l axes

    abbrev pub ShiftHas : Shift → Type 0
    ShiftHas s = AllHave s.layer × AllHave s.stay

    pub move_rotation_has : (s : Shift) (r : Rot) → ShiftHas s → Has r → ShiftHas (move_rotation l axes s r)
    move_rotation_has = move_rotation_by Has Has axis_kept l axes

    pub move_rotations_has : (s : Shift) (rs : List Rot) → ShiftHas s → AllHave rs → ShiftHas (move_rotations l axes s rs)
    move_rotations_has = move_rotations_by Has Has axis_kept l axes

    pub sweep_has : (n : ℕ) (ls : List (List Rot)) → LayersHave ls → LayersHave (sweep l axes n ls).layers
    sweep_has = sweep_by Has Has axis_kept l axes

    pub zeros_has : (ls : List (List Rot)) → LayersHave ls → LayersHave (map drop_zero_rots ls)
    zeros_has = zeros_by Has Has axis_kept l axes

    -- the layers of a segment keep it
    pub layer_segment_has : (rots : List Rot) → AllHave rots → AllHave (layer_segment l axes rots).rots
    layer_segment_has = layer_segment_by Has Has axis_kept l axes

  -- ---- segments

  -- P holds of an item's axis
  abbrev pub ItemHas : Item → Type 0
  ItemHas i = P (axis_of i)

  -- a rewrite of each segment keeps it
  pub rewrite_segments_in : (f : List Rot → Segment) → ((segment : List Rot) → AllHave segment → AllHave (f segment).rots)
      → (is : List Item) → Every ItemHas is → Every ItemHas (rewrite_segments f is).items
  rewrite_segments_in = rewrite_segments_every Has ItemHas (λ r h. h) (λ r h. h)
