-- Sweeps: what their functions demand of the stores and leave in them. Assumes nothing.
use Rattle.std.specs.Prelude.{◌≡◌, true, false, Option, MatchOption, List, [], ◌∷◌, ◌++◌, ℕ, ◌+◌, ◌-◌, ◌*◌, ◌≤◌, ◌<◌, length}
use Rattle.model.specs.Items.{Rot, drop_zero_rots}
use Rattle.model.specs.Layering.{move_rotation, move_rotations, sweep, drop_zero_layers, sweeps_from}
use Rattle.theory.specs.SegmentAxes.{AllHave, LayersHave, ShiftHas}
use Rattle.layout.specs.Rows.{row_count, layers_row, layer_end, swept_row, swept_end}
use Rattle.layout.specs.Only.{Only}
use Rattle.layout.specs.Shape.{longest_row}
use Rattle.axes.specs.declared.Sizes.{Sizes}
use Rattle.axes.specs.Held.{stored_axes, Stored}
use Rattle.commuting.specs.Commuting.{commutes_from}
use Rattle.items.specs.View.{item_rows, tagged_at, rot_at, rots_in}
use Rattle.layering_states.specs.Sweeping.{after_shift, sweep_step, sweep_on, enough, after_sweep}
use Rattle.layers.specs.declared.Laid.{Laid}
use Rattle.layers.specs.View.{first_layers, begin_of, layer_in, layers_in, open_in, Sound}
use Rattle.layers.specs.Demands.{IsAxis, layer_rows}
use Rattle.sweeps.specs.declared.sweep.Moving.{Moving}
use Rattle.sweeps.specs.View.{first_swept, shift_in, sweeping_in, sweep_rows}

-- the rotations that a sweep has laid, those that stay, and those that have merged
abbrev pub size_of : Moving → ℕ
size_of st = st.laid.len + st.laid.merged + st.stay

-- ---- one rotation

-- the place of a rotation of the sweep, from a place up to an end, that anticommutes with an axis; none, where none does
abbrev pub Blocked : Sizes → List ℕ → List ℕ → ℕ → ℕ → ℕ → Option ℕ → Type 0
Blocked z ws s from end axis r =
    MatchOption r (commutes_from z ws s swept_row end axis from ≡ true)
    (λ at. (from ≤ at) × (at < end) × (commutes_from z ws s swept_row end axis from ≡ false))

pub record MovePre (z : Sizes) (ws s : List ℕ) (i : ℕ) (st : Moving) : Type 0 where
  pub stored : Stored z ws s
  pub here : i < z.u
  pub sound : Sound z.u s swept_end st.laid
  pub size : size_of st < z.u
  pub axes : AllHave (IsAxis z) (open_in s z.u swept_row st.laid)
  pub own : IsAxis z (tagged_at s z.u layers_row i).axis

-- the closed layers are as they were; the open one and those that stay are the model's
pub record Moved (z : Sizes) (ws s : List ℕ) (i : ℕ) (st r : Moving) (t : List ℕ) : Type 0 where
  pub only : Only sweep_rows z.u s t
  pub sound : Sound z.u t swept_end r.laid
  pub size : size_of r ≡ size_of st + 1
  pub count : r.laid.count ≡ st.laid.count
  pub done : first_swept t z.u r.laid.count ≡ first_swept s z.u st.laid.count
  pub shift : shift_in t z.u r ≡ move_rotation z.l (stored_axes z ws) (shift_in s z.u st) (rot_at s z.u layers_row i)

-- ---- the rotations of a layer

pub record MovesPre (z : Sizes) (ws s : List ℕ) (st : Moving) (from end : ℕ) : Type 0 where
  pub stored : Stored z ws s
  pub order : from ≤ end
  pub here : end ≤ z.u
  pub sound : Sound z.u s swept_end st.laid
  pub size : size_of st + (end - from) < z.u
  pub has : ShiftHas (IsAxis z) z.l (stored_axes z ws) (shift_in s z.u st)
  pub axes : AllHave (IsAxis z) (rots_in s z.u layers_row from (end - from))

pub record MovedAll (z : Sizes) (ws s : List ℕ) (st : Moving) (from end : ℕ) (r : Moving) (t : List ℕ) : Type 0 where
  pub only : Only sweep_rows z.u s t
  pub sound : Sound z.u t swept_end r.laid
  pub size : size_of r ≡ size_of st + (end - from)
  pub count : r.laid.count ≡ st.laid.count
  pub done : first_swept t z.u r.laid.count ≡ first_swept s z.u st.laid.count
  pub shift : shift_in t z.u r
      ≡ move_rotations z.l (stored_axes z ws) (shift_in s z.u st) (rots_in s z.u layers_row from (end - from))

-- ---- those that stay

pub record LayPre (u : ℕ) (s : List ℕ) (st : Moving) : Type 0 where
  pub long : row_count * u ≤ length s
  pub short : u ≤ longest_row
  pub sound : Sound u s swept_end st.laid
  pub few : st.laid.count < u
  pub size : size_of st < u

pub record StayLaid (u : ℕ) (s : List ℕ) (st r : Moving) (t : List ℕ) : Type 0 where
  pub only : Only sweep_rows u s t
  pub sound : Sound u t swept_end r.laid
  pub none : r.stay ≡ 0
  pub size : size_of r ≡ size_of st
  pub count : r.laid.count ≡ st.laid.count + 1
  pub sweeping : sweeping_in t u r ≡ after_shift (sweeping_in s u st) (shift_in s u st)

-- ---- a layer

-- its rotations, as many as lie between its ends
abbrev pub size_at : List ℕ → ℕ → ℕ → ℕ
size_at s u k = begin_of s u layer_end (k + 1) - begin_of s u layer_end k

pub record LayerPre (z : Sizes) (ws s : List ℕ) (st : Moving) (k : ℕ) : Type 0 where
  pub stored : Stored z ws s
  pub layer : k < z.u
  pub order : begin_of s z.u layer_end k ≤ begin_of s z.u layer_end (k + 1)
  pub here : begin_of s z.u layer_end (k + 1) ≤ z.u
  pub sound : Sound z.u s swept_end st.laid
  pub few : st.laid.count < z.u
  pub none : st.stay ≡ 0
  pub size : size_of st + size_at s z.u k < z.u
  pub has : AllHave (IsAxis z) (open_in s z.u swept_row st.laid)
  pub axes : AllHave (IsAxis z) (layer_in s z.u layers_row layer_end k)

pub record LayerSwept (z : Sizes) (ws s : List ℕ) (st : Moving) (k : ℕ) (r : Moving) (t : List ℕ) : Type 0 where
  pub only : Only sweep_rows z.u s t
  pub sound : Sound z.u t swept_end r.laid
  pub none : r.stay ≡ 0
  pub size : size_of r ≡ size_of st + size_at s z.u k
  pub count : r.laid.count ≡ st.laid.count + 1
  pub sweeping : sweeping_in t z.u r ≡ sweep_step z.l (stored_axes z ws) (sweeping_in s z.u st) (layer_in s z.u layers_row layer_end k)

-- ---- all layers

pub record FirstPre (u : ℕ) (s : List ℕ) : Type 0 where
  pub long : row_count * u ≤ length s
  pub layer : 0 < u
  pub here : begin_of s u layer_end 1 ≤ u

pub record FirstLaid (u : ℕ) (s : List ℕ) (merged : ℕ) (r : Moving) (t : List ℕ) : Type 0 where
  pub only : Only sweep_rows u s t
  pub sound : Sound u t swept_end r.laid
  pub none : r.stay ≡ 0
  pub size : size_of r ≡ begin_of s u layer_end 1 + merged
  pub count : r.laid.count ≡ 0
  pub sweeping : sweeping_in t u r ≡ record { done = []; layer = layer_in s u layers_row layer_end 0; merged = merged; moved = false }

-- count layers, their ends rising, with room for all their rotations
pub record LayersFit (u : ℕ) (s : List ℕ) (e count : ℕ) : Type 0 where
  pub few : count ≤ u
  pub rise : (j k : ℕ) → j ≤ k → k ≤ count → begin_of s u e j ≤ begin_of s u e k
  pub here : begin_of s u e count ≤ u

-- the first layer is the open one
pub record RestPre (z : Sizes) (ws s : List ℕ) (st : Moving) (count : ℕ) : Type 0 where
  pub stored : Stored z ws s
  pub layers : LayersFit z.u s layer_end count
  pub one : 0 < count
  pub sound : Sound z.u s swept_end st.laid
  pub none : st.stay ≡ 0
  pub first : st.laid.count ≡ 0
  pub size : size_of st + begin_of s z.u layer_end count < z.u + begin_of s z.u layer_end 1
  pub has : AllHave (IsAxis z) (open_in s z.u swept_row st.laid)
  pub axes : LayersHave (IsAxis z) (layers_in s z.u layers_row layer_end 1 (count - 1))

-- the rest of the sweep is done
pub record RestSwept (z : Sizes) (ws s : List ℕ) (st : Moving) (count : ℕ) (r : Moving) (t : List ℕ) : Type 0 where
  pub only : Only sweep_rows z.u s t
  pub sound : Sound z.u t swept_end r.laid
  pub none : r.stay ≡ 0
  pub size : size_of r + begin_of s z.u layer_end 1 ≡ size_of st + begin_of s z.u layer_end count
  pub count_is : r.laid.count + 1 ≡ count
  pub swept : sweep_on z.l (stored_axes z ws) (sweeping_in t z.u r) []
      ≡ sweep_on z.l (stored_axes z ws) (sweeping_in s z.u st) (layers_in s z.u layers_row layer_end 1 (count - 1))

pub record SweepPre (z : Sizes) (ws s : List ℕ) (count merged : ℕ) : Type 0 where
  pub stored : Stored z ws s
  pub layers : LayersFit z.u s layer_end count
  pub one : 0 < count
  pub size : begin_of s z.u layer_end count + merged < z.u
  pub axes : LayersHave (IsAxis z) (first_layers s z.u count)

pub record SweptAll (z : Sizes) (ws s : List ℕ) (count merged : ℕ) (r : Moving) (t : List ℕ) : Type 0 where
  pub only : Only sweep_rows z.u s t
  pub sound : Sound z.u t swept_end r.laid
  pub size : r.laid.start + r.laid.merged ≡ begin_of s z.u layer_end count + merged
  pub count_is : r.laid.count ≡ count
  pub swept : sweep z.l (stored_axes z ws) merged (first_layers s z.u count)
      ≡ record { layers = first_swept t z.u count; merged = r.laid.merged; moved = r.moved }

-- ---- zeros

pub record KeepPre (u : ℕ) (s : List ℕ) (i len : ℕ) : Type 0 where
  pub long : row_count * u ≤ length s
  pub here : i < u
  pub room : len < u

-- rotation i of the sweep is a zero, or stands behind the others
pub record Kept (u : ℕ) (s : List ℕ) (i len r : ℕ) (t : List ℕ) : Type 0 where
  pub only : Only (item_rows layers_row) u s t
  pub before : (j : ℕ) → j < len → tagged_at t u layers_row j ≡ tagged_at s u layers_row j
  pub low : len ≤ r
  pub high : r ≤ len + 1
  pub goes_on : (rest : List Rot) → rots_in t u layers_row len (r - len) ++ drop_zero_rots rest ≡ drop_zero_rots (rot_at s u swept_row i ∷ rest)

pub record KeepsPre (u : ℕ) (s : List ℕ) (from end to : ℕ) : Type 0 where
  pub long : row_count * u ≤ length s
  pub order : from ≤ end
  pub here : end ≤ u
  pub room : to + (end - from) ≤ u

-- what is left of the rotations stands from `to` on
pub record KeptAll (u : ℕ) (s : List ℕ) (from end to r : ℕ) (t : List ℕ) : Type 0 where
  pub only : Only (item_rows layers_row) u s t
  pub before : (j : ℕ) → j < to → tagged_at t u layers_row j ≡ tagged_at s u layers_row j
  pub low : to ≤ r
  pub high : r ≤ to + (end - from)
  pub rots : rots_in t u layers_row to (r - to) ≡ drop_zero_rots (rots_in s u swept_row from (end - from))

pub record KeepLayerPre (u : ℕ) (s : List ℕ) (st : Laid) (k : ℕ) : Type 0 where
  pub long : row_count * u ≤ length s
  pub short : u ≤ longest_row
  pub layer : k < u
  pub order : begin_of s u swept_end k ≤ begin_of s u swept_end (k + 1)
  pub here : begin_of s u swept_end (k + 1) ≤ u
  pub sound : Sound u s layer_end st
  pub closed : st.start ≡ st.len
  pub few : st.count < u
  pub room : st.len ≤ begin_of s u swept_end k

pub record LayerKept (u : ℕ) (s : List ℕ) (st : Laid) (k : ℕ) (r : Laid) (t : List ℕ) : Type 0 where
  pub only : Only layer_rows u s t
  pub sound : Sound u t layer_end r
  pub closed : r.start ≡ r.len
  pub count : r.count ≤ st.count + 1
  pub room : r.len ≤ begin_of s u swept_end (k + 1)
  pub merged : r.merged ≡ st.merged
  pub goes_on : (rest : List (List Rot)) → first_layers t u r.count ++ drop_zero_layers rest
      ≡ first_layers s u st.count ++ drop_zero_layers (layer_in s u swept_row swept_end k ∷ rest)

pub record ZerosPre (u : ℕ) (s : List ℕ) (count : ℕ) : Type 0 where
  pub long : row_count * u ≤ length s
  pub short : u ≤ longest_row
  pub layers : LayersFit u s swept_end count

pub record ZerosDropped (u : ℕ) (s : List ℕ) (count merged : ℕ) (r : Laid) (t : List ℕ) : Type 0 where
  pub only : Only layer_rows u s t
  pub sound : Sound u t layer_end r
  pub closed : r.start ≡ r.len
  pub count_le : r.count ≤ count
  pub room : r.len ≤ begin_of s u swept_end count
  pub merged_is : r.merged ≡ merged
  pub layers : first_layers t u r.count ≡ drop_zero_layers (first_swept s u count)

-- ---- sweep after sweep

-- all layers are closed, and there is room for another sweep
pub record SweepsPre (z : Sizes) (ws s : List ℕ) (st : Laid) : Type 0 where
  pub stored : Stored z ws s
  pub sound : Sound z.u s layer_end st
  pub closed : st.start ≡ st.len
  pub few : st.count ≤ z.u
  pub size : st.len + st.merged < z.u
  pub axes : LayersHave (IsAxis z) (first_layers s z.u st.count)

-- the rows that sweeps write
abbrev pub sweeps_rows : List ℕ
sweeps_rows = layers_row ∷ (layers_row + 1) ∷ (layers_row + 2) ∷ layer_end ∷ sweep_rows

-- the model's sweep without its zeros
pub record SweptOnce (z : Sizes) (ws s : List ℕ) (st r : Moving) (t : List ℕ) : Type 0 where
  pub only : Only sweeps_rows z.u s t
  pub sound : Sound z.u t layer_end r.laid
  pub closed : r.laid.start ≡ r.laid.len
  pub count : r.laid.count ≤ st.laid.count
  pub size : r.laid.len + r.laid.merged ≤ st.laid.len + st.laid.merged
  pub layers : first_layers t z.u r.laid.count
      ≡ after_sweep z.l (stored_axes z ws) st.laid.merged (first_layers s z.u st.laid.count)
  pub merged : r.laid.merged ≡ (sweep z.l (stored_axes z ws) st.laid.merged (first_layers s z.u st.laid.count)).merged
  pub moved : r.moved ≡ (sweep z.l (stored_axes z ws) st.laid.merged (first_layers s z.u st.laid.count)).moved

-- the model's sweeps: their rotations are the first of the layers
pub record SweepsDone (z : Sizes) (ws s : List ℕ) (st r : Laid) (t : List ℕ) : Type 0 where
  pub only : Only sweeps_rows z.u s t
  pub size : r.len + r.merged ≤ st.len + st.merged
  pub swept : sweeps_from z.l (stored_axes z ws) (enough z.l (stored_axes z ws) (first_layers s z.u st.count)) true st.merged
      (first_layers s z.u st.count)
      ≡ record { rots = rots_in t z.u layers_row 0 r.len; changes = r.merged }
