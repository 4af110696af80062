-- Joining layers: what its functions demand of the stores and leave in them. Assumes nothing.
use Rattle.std.specs.Prelude.{◌≡◌, List, [], ◌∷◌, ℕ, ◌+◌, ◌-◌, ◌*◌, ◌≤◌, ◌<◌, length}
use Rattle.store.specs.Row.{Written}
use Rattle.model.specs.Items.{Rot}
use Rattle.model.specs.Layering.{merge_into, merges_in, join_layer, join_layers}
use Rattle.theory.specs.SegmentAxes.{AllHave}
use Rattle.layout.specs.Rows.{row_count, items_row, layers_row, layer_end}
use Rattle.layout.specs.Only.{Only}
use Rattle.layout.specs.Shape.{longest_row}
use Rattle.axes.specs.declared.Sizes.{Sizes}
use Rattle.axes.specs.Held.{stored_axes, Stored}
use Rattle.items.specs.View.{item_rows, tagged_at, rot_at, rots_in}
use Rattle.layering_states.specs.Joining.{no_layers}
use Rattle.layers.specs.declared.Laid.{Laid}
use Rattle.layers.specs.View.{open_in, laid_in, Sound}

-- a is one of the stored axes
abbrev pub IsAxis : Sizes → ℕ → Type 0
IsAxis z a = a < z.axes

-- entries of the list in rows b on, from a place to an end
pub record ListPre (u : ℕ) (s : List ℕ) (b from end : ℕ) : Type 0 where
  pub long : row_count * u ≤ length s
  pub rows : b + 2 < row_count
  pub order : from ≤ end
  pub here : end ≤ u

-- ---- the open layer

pub record JoinPre (u : ℕ) (s : List ℕ) (b : ℕ) (st : Laid) : Type 0 where
  pub long : row_count * u ≤ length s
  pub rows : b + 2 < row_count
  pub order : st.start ≤ st.len
  pub room : st.len < u
  pub small : st.len + st.merged ≤ longest_row

-- rotation x has joined it
pub record Joined (u : ℕ) (s : List ℕ) (b : ℕ) (st : Laid) (x : Rot) (r : Laid) (t : List ℕ) : Type 0 where
  pub only : Only (item_rows b) u s t
  pub before : (j : ℕ) → j < st.start → tagged_at t u b j ≡ tagged_at s u b j
  pub count : r.count ≡ st.count
  pub start : r.start ≡ st.start
  pub longer : st.len ≤ r.len
  pub size : r.len + r.merged ≡ st.len + st.merged + 1
  pub layer : open_in t u b r ≡ merge_into (open_in s u b st) x
  pub merged : r.merged ≡ st.merged + merges_in (open_in s u b st) x

pub record ClosePre (u : ℕ) (s : List ℕ) (e : ℕ) (st : Laid) : Type 0 where
  pub long : row_count * u ≤ length s
  pub row : e < row_count
  pub here : st.count < u
  pub end : st.len ≤ longest_row

-- the open layer's end is written, and the next is open
pub record Closed (u : ℕ) (s : List ℕ) (e : ℕ) (st r : Laid) (t : List ℕ) : Type 0 where
  pub write : Written s u e st.count st.len t
  pub next : r ≡ record { count = st.count + 1; start = st.len; len = st.len; merged = st.merged }

pub record BeginPre (u : ℕ) (s : List ℕ) (e k : ℕ) : Type 0 where
  pub long : row_count * u ≤ length s
  pub row : e < row_count
  pub here : k ≤ u

-- ---- items join

-- the rows of the layers
abbrev pub layer_rows : List ℕ
layer_rows = layers_row ∷ (layers_row + 1) ∷ (layers_row + 2) ∷ layer_end ∷ []

pub record ItemPre (z : Sizes) (ws s : List ℕ) (i : ℕ) (st : Laid) : Type 0 where
  pub stored : Stored z ws s
  pub here : i < z.u
  pub sound : Sound z.u s layer_end st
  pub size : st.len + st.merged < z.u
  pub few : st.count < z.u
  pub axes : AllHave (IsAxis z) (open_in s z.u layers_row st)
  pub own : IsAxis z (tagged_at s z.u items_row i).axis

-- the model's step
pub record ItemJoined (z : Sizes) (ws s : List ℕ) (i : ℕ) (st r : Laid) (t : List ℕ) : Type 0 where
  pub only : Only layer_rows z.u s t
  pub sound : Sound z.u t layer_end r
  pub size : r.len + r.merged ≡ st.len + st.merged + 1
  pub count : r.count ≤ st.count + 1
  pub laid : laid_in t z.u layers_row layer_end r
      ≡ join_layer z.l (stored_axes z ws) (laid_in s z.u layers_row layer_end st) (rot_at s z.u items_row i)

pub record ItemsPre (z : Sizes) (ws s : List ℕ) (from end : ℕ) : Type 0 where
  pub stored : Stored z ws s
  pub order : from ≤ end
  pub here : end < z.u
  pub axes : AllHave (IsAxis z) (rots_in s z.u items_row from (end - from))

-- the model's layers of the items; none of them is lost but by merging
pub record ItemsJoined (z : Sizes) (ws s : List ℕ) (from end : ℕ) (r : Laid) (t : List ℕ) : Type 0 where
  pub only : Only layer_rows z.u s t
  pub sound : Sound z.u t layer_end r
  pub size : r.len + r.merged ≡ end - from
  pub count : r.count ≤ end - from
  pub laid : laid_in t z.u layers_row layer_end r
      ≡ join_layers z.l (stored_axes z ws) no_layers (rots_in s z.u items_row from (end - from))
