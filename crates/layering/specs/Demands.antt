-- Layering: what its functions demand of the stores and leave in them. Assumes nothing.
use Rattle.std.specs.Prelude.{◌≡◌, List, [], ◌∷◌, ◌++◌, map, ℕ, ◌+◌, ◌-◌, ◌*◌, ◌≤◌, ◌<◌, length}
use Rattle.model.specs.Items.{rotation, rewrite_from, rewrite_segments}
use Rattle.model.specs.Layering.{layer_segment}
use Rattle.theory.specs.StreamState.{AllIn}
use Rattle.layout.specs.Rows.{row_count, items_row, out_row, layers_row}
use Rattle.layout.specs.Only.{Only}
use Rattle.axes.specs.declared.Sizes.{Sizes}
use Rattle.axes.specs.Held.{stored_axes, Stored}
use Rattle.items.specs.View.{item_rows, tagged_at, items_in, rots_in}
use Rattle.items.specs.Put.{ItemPut, tagged_rotation}
use Rattle.layers.specs.declared.Laid.{Laid}
use Rattle.sweeps.specs.Demands.{sweeps_rows}
use Rattle.layering.specs.declared.Layering.{Layering}

-- ---- a segment's rotations

-- the model's layers of a segment; none of its rotations is lost but by merging or as a zero
pub record SegmentLayered (z : Sizes) (ws s : List ℕ) (from end : ℕ) (r : Laid) (t : List ℕ) : Type 0 where
  pub only : Only sweeps_rows z.u s t
  pub size : r.len + r.merged ≤ end - from
  pub layered : layer_segment z.l (stored_axes z ws) (rots_in s z.u items_row from (end - from))
      ≡ record { rots = rots_in t z.u layers_row 0 r.len; changes = r.merged }

-- ---- rotations are put out

pub record OnePre (u : ℕ) (s : List ℕ) (i to : ℕ) : Type 0 where
  pub long : row_count * u ≤ length s
  pub here : i < u
  pub room : to < u

abbrev pub OneOut : ℕ → List ℕ → ℕ → ℕ → List ℕ → Type 0
OneOut u s i to t = ItemPut s u out_row to (tagged_rotation (tagged_at s u layers_row i).axis (tagged_at s u layers_row i).angle) t

pub record OutPre (u : ℕ) (s : List ℕ) (n out : ℕ) : Type 0 where
  pub long : row_count * u ≤ length s
  pub here : n ≤ u
  pub room : out + n ≤ u

pub record AllOut (u : ℕ) (s : List ℕ) (n out : ℕ) (t : List ℕ) : Type 0 where
  pub only : Only (item_rows out_row) u s t
  pub items : items_in t u out_row 0 (out + n) ≡ items_in s u out_row 0 out ++ map rotation (rots_in s u layers_row 0 n)

-- ---- segments

-- the rows that a segment's turn writes
abbrev pub segment_rows : List ℕ
segment_rows = out_row ∷ (out_row + 1) ∷ (out_row + 2) ∷ sweeps_rows

-- the pass stands before an item; no more is put out or merged than was read
pub record SegmentPre (z : Sizes) (ws s : List ℕ) (st : Layering) (count : ℕ) : Type 0 where
  pub stored : Stored z ws s
  pub items : count < z.u
  pub item : st.from < count
  pub size : st.out + st.merged ≤ st.from
  pub axes : AllIn z.axes (items_in s z.u items_row st.from (count - st.from))

-- the rest of the model's pass, from the state before and from the state after
pub record SegmentDone (z : Sizes) (ws s : List ℕ) (st : Layering) (count : ℕ) (r : Layering) (t : List ℕ) : Type 0 where
  pub only : Only segment_rows z.u s t
  pub further : st.from < r.from
  pub high : r.from ≤ count
  pub size : r.out + r.merged ≤ r.from
  pub goes_on : rewrite_from (layer_segment z.l (stored_axes z ws)) (items_in s z.u out_row 0 st.out) [] st.merged
      (items_in s z.u items_row st.from (count - st.from))
      ≡ rewrite_from (layer_segment z.l (stored_axes z ws)) (items_in t z.u out_row 0 r.out) [] r.merged
      (items_in s z.u items_row r.from (count - r.from))

-- ---- the pass

-- the items are there, and their axes are stored; no row is longer than the domain's longest, so ends are below 2 ^ 32
pub record LayeringPre (z : Sizes) (ws s : List ℕ) (count : ℕ) : Type 0 where
  pub stored : Stored z ws s
  pub items : count < z.u
  pub axes : AllIn z.axes (items_in s z.u items_row 0 count)

-- the rows that the pass writes
abbrev pub layering_rows : List ℕ
layering_rows = items_row ∷ (items_row + 1) ∷ (items_row + 2) ∷ segment_rows

-- the model's layers of the stored axes and the items; none of these is lost but by merging or as a zero
pub record LayeredAs (z : Sizes) (ws s : List ℕ) (count : ℕ) (r : Layering) (t : List ℕ) : Type 0 where
  pub only : Only layering_rows z.u s t
  pub size : r.out + r.merged ≤ count
  pub layered : rewrite_segments (layer_segment z.l (stored_axes z ws)) (items_in s z.u items_row 0 count)
      ≡ record { items = items_in t z.u items_row 0 r.out; changes = r.merged }
