-- T-depth: what its functions demand of the stores and leave in them. Assumes nothing.
use Rattle.std.specs.Prelude.{◌≡◌, Bool, true, false, List, ◌∷◌, ℕ, ◌+◌, ◌-◌, ◌%◌, ◌≤◌, ◌<◌}
use Rattle.pauli.specs.SupportLaws.{SupportWithin}
use Rattle.model.specs.Words.{word_of, anticommute}
use Rattle.model.specs.Items.{Rot, Item}
use Rattle.model.specs.Depth.{Level, depth_from, t_depth}
use Rattle.theory.specs.StreamState.{AllIn}
use Rattle.layout.specs.Rows.{items_row}
use Rattle.layout.specs.Only.{Only}
use Rattle.axes.specs.declared.Sizes.{Sizes}
use Rattle.axes.specs.Held.{stored_axes, Stored}
use Rattle.items.specs.View.{tagged_at, rot_at, item_at, items_in}
use Rattle.depth.specs.declared.Depth.{Depth}
use Rattle.depth.specs.Levels.{highest_asked, highest_level, Deep, levels_to, level_no}
use Rattle.depth.specs.Lists.{level_rows, oldest_at, next_at, First, Listed}

-- the rotations that memory holds, by place
unfoldable pub rots_of : List ℕ → ℕ → ℕ → Rot
rots_of s u j = rot_at s u items_row j

module _ (l : ℕ) (axes : List (List ℕ)) (f : ℕ → Rot) where
  -- the levels of the present segment's rotations before item i
  abbrev pub segment_of : Depth → ℕ → List Level
  segment_of st i = levels_to l axes f st.start (i - st.start)

  -- the level of the one at place j, counted on from the segments before
  unfoldable pub level_in : ℕ → ℕ → ℕ → ℕ
  level_in total start j = total + level_no l axes f start j

  -- before item i the number store holds the rotations of the present segment by level
  pub record HoldingOf (u : ℕ) (s : List ℕ) (i : ℕ) (st : Depth) : Type 0 where
    pub order : st.start ≤ i
    pub small : st.total ≤ st.start
    pub deep : Deep (segment_of st i)
    pub depth : st.reached ≡ st.total + highest_level (segment_of st i)
    pub listed : Listed l axes (λ j. (f j).axis) (level_in st.total st.start) st.total st.start st.reached u s i

-- those of the stores
abbrev pub Holding : Sizes → List ℕ → List ℕ → ℕ → Depth → Type 0
Holding z ws s i st = HoldingOf z.l (stored_axes z ws) (rots_of s z.u) z.u s i st

abbrev pub segment_in : Sizes → List ℕ → List ℕ → Depth → ℕ → List Level
segment_in z ws s st i = segment_of z.l (stored_axes z ws) (rots_of s z.u) st i

-- ---- one level

-- axis a, whose support lies within sig, is to stand behind the segment's rotations before item i
pub record LevelPre (z : Sizes) (ws s : List ℕ) (st : Depth) (i a sig : ℕ) : Type 0 where
  pub here : i < z.u
  pub axes : (j : ℕ) → j ≤ i → (tagged_at s z.u items_row j).axis < z.axes
  pub own : a < z.axes
  pub within : SupportWithin z.l sig (word_of (stored_axes z ws) a)
  pub levels : Holding z ws s i st

-- the level of the rotation at place j
abbrev pub level_here : Sizes → List ℕ → List ℕ → ℕ → ℕ → ℕ → ℕ
level_here z ws s total start = level_in z.l (stored_axes z ws) (rots_of s z.u) total start

-- the list of level v holds the rotations of that level from start up to i
pub record WalkPre (z : Sizes) (ws s : List ℕ) (total start i a v : ℕ) : Type 0 where
  pub here : i < z.u
  pub axes : (j : ℕ) → j ≤ i → (tagged_at s z.u items_row j).axis < z.axes
  pub own : a < z.axes
  pub high : 0 < v
  pub level : v ≤ z.u
  pub oldest : First (level_here z ws s total start) z.u start v i (oldest_at s z.u v)
  pub nexts : (j : ℕ) → start ≤ j → j < i → level_here z ws s total start j ≡ v
      → First (level_here z ws s total start) z.u (j + 1) v i (next_at s z.u j)

-- whether one of level v anticommutes with it
pub record Walked (z : Sizes) (ws s : List ℕ) (total start i a v : ℕ) (r : Bool) : Type 0 where
  pub some : r ≡ true → v ≤ total + highest_asked z.l (stored_axes z ws) a (levels_to z.l (stored_axes z ws) (rots_of s z.u) start (i - start))
  pub none : r ≡ false → (j : ℕ) → start ≤ j → j < i → level_here z ws s total start j ≡ v
      → anticommute z.l (stored_axes z ws) (rots_of s z.u j).axis a ≡ false

-- the highest level that is asked
abbrev pub LevelIs : Sizes → List ℕ → List ℕ → Depth → ℕ → ℕ → ℕ → Type 0
LevelIs z ws s st i a r = r ≡ st.total + highest_asked z.l (stored_axes z ws) a (segment_in z ws s st i)

-- ---- one item

pub record TurnPre (z : Sizes) (ws s : List ℕ) (i : ℕ) (st : Depth) : Type 0 where
  pub stored : Stored z ws s
  pub here : i < z.u
  pub axes : (j : ℕ) → j ≤ i → (tagged_at s z.u items_row j).axis < z.axes
  pub levels : Holding z ws s i st

pub record RotationPre (z : Sizes) (ws s : List ℕ) (i : ℕ) (st : Depth) (a odd : ℕ) : Type 0 where
  pub turn : TurnPre z ws s i st
  pub axis : a ≡ (tagged_at s z.u items_row i).axis
  pub angle : odd ≡ (tagged_at s z.u items_row i).angle % 2

pub record RotationPut (z : Sizes) (ws s : List ℕ) (i : ℕ) (st : Depth) (r : ℕ) (t : List ℕ) : Type 0 where
  pub only : Only level_rows z.u s t
  pub levels : Holding z ws t (i + 1) (record { total = st.total; start = st.start; reached = r })

-- the model's turn: whatever follows, its depth from the state before is that from the state after
pub record Turned (z : Sizes) (ws s : List ℕ) (i : ℕ) (st r : Depth) (t : List ℕ) : Type 0 where
  pub only : Only level_rows z.u s t
  pub levels : Holding z ws t (i + 1) r
  pub goes_on : (rest : List Item)
      → depth_from z.l (stored_axes z ws) st.total (segment_in z ws s st i) (item_at s z.u items_row i ∷ rest)
      ≡ depth_from z.l (stored_axes z ws) r.total (segment_in z ws t r (i + 1)) rest

-- ---- all items

-- they are there, and their axes are stored; levels are below 2 ^ 32, as no row is longer than the domain's longest
pub record DepthPre (z : Sizes) (ws s : List ℕ) (count : ℕ) : Type 0 where
  pub stored : Stored z ws s
  pub items : count ≤ z.u
  pub axes : AllIn z.axes (items_in s z.u items_row 0 count)

-- the model's T-depth of the stored axes and the items
pub record DepthOf (z : Sizes) (ws s : List ℕ) (count r : ℕ) (t : List ℕ) : Type 0 where
  pub only : Only level_rows z.u s t
  pub depth : r ≡ t_depth z.l (stored_axes z ws) (items_in s z.u items_row 0 count)
