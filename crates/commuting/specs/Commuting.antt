-- Whether an axis commutes with all rotations of a part of a list, place by place. Assumes nothing.
use Rattle.std.specs.Prelude.{◌≡◌, Bool, true, false, ◌&&◌, ℕ, ◌+◌, ◌-◌, ◌≤◌, ◌<◌, length}
use Rattle.std.proofs.Math.Path.{refl, ap}
use Rattle.std.proofs.Common.{sym, ◌∙◌, arith}
use Rattle.std.proofs.Math.Bool.{not}
use mathlib.Core.List.{List}
use Rattle.model.specs.Lists.{all_of}
use Rattle.model.specs.Words.{anticommute}
use Rattle.model.specs.Items.{Rot, rot}
use Rattle.model.specs.Layering.{commutes_with_all}
use Rattle.theory.specs.Every.{every_at}
use Rattle.theory.specs.SegmentAxes.{AllHave}
use Rattle.layout.specs.Rows.{row_count}
use Rattle.axes.specs.declared.Sizes.{Sizes}
use Rattle.axes.specs.Held.{stored_axes, Stored}
use Rattle.items.specs.View.{tagged_at, rot_said, rots_in, view_length, view_at, view_none, view_next}
use Rattle.items.specs.Put.{EntryPre}

-- the axis and those of the rotations are stored
pub record CommutesPre (z : Sizes) (xs : List ℕ) (b from end axis : ℕ) : Type 0 where
  pub rows : b + 2 < row_count
  pub end_in : end ≤ z.u
  pub axes_in_lem : (i : ℕ) → from ≤ i → i < end → (tagged_at xs z.u b i).axis < z.axes
  pub axis_in : axis < z.axes

-- what holds of every axis of the list holds of the axis of an entry
pub axis_has : (P : ℕ → Type 0) (xs : List ℕ) (u b from end : ℕ) → AllHave P (rots_in xs u b from (end - from))
    → (i : ℕ) → from ≤ i → i < end → P (tagged_at xs u b i).axis
unfolding rot_said
axis_has P xs u b from end h i low high =
    let j = i - from in
    let k : j < end - from = omega arith in
    let e : from + j ≡ i = omega arith in
    let long : j < length (rots_in xs u b from (end - from)) = omega (arith, view_length rot_said xs u b from (end - from)) in
    rw (view_at rot_said xs u b from (end - from) j (rot 0 0) k, e)
    at (every_at (λ (r : Rot). P r.axis) (rots_in xs u b from (end - from)) (rot 0 0) j h long)

-- only the axis of a rotation matters
pub commutes_axis : (l : ℕ) (axes : List (List ℕ)) (rots : List Rot) (r : Rot)
    → commutes_with_all l axes rots (rot r.axis 0) ≡ commutes_with_all l axes rots r
unfolding commutes_with_all
commutes_axis l axes rots r = refl

-- ---- the loop

module _ (z : Sizes) (ws xs : List ℕ) (b end axis : ℕ) where
  -- what is left from place i on decides
  unfoldable pub commutes_from : ℕ → Bool
  commutes_from i = commutes_with_all z.l (stored_axes z ws) (rots_in xs z.u b i (end - i)) (rot axis 0)

  pub commutes_is : (i : ℕ) → commutes_with_all z.l (stored_axes z ws) (rots_in xs z.u b i (end - i)) (rot axis 0) ≡ commutes_from i
  unfolding commutes_from
  commutes_is i = refl

  pub commutes_end : (i : ℕ) → end ≤ i → commutes_from i ≡ true
  unfolding commutes_from commutes_with_all all_of
  commutes_end i h =
      ap (λ (rots : List Rot). commutes_with_all z.l (stored_axes z ws) rots (rot axis 0))
      (view_none rot_said xs z.u b i (end - i) (omega arith))

  module _ {i other : ℕ} {r : Bool} (h : i < end) (read : other ≡ (tagged_at xs z.u b i).axis)
      (said : r ≡ anticommute z.l (stored_axes z ws) other axis) where
    turn : commutes_from i ≡ not r && commutes_from (i + 1)
    unfolding commutes_from commutes_with_all all_of rot_said
    turn =
        ap (λ (rots : List Rot). commutes_with_all z.l (stored_axes z ws) rots (rot axis 0)) (view_next rot_said xs z.u b i end h)
        ∙ ap (λ (c : Bool). not c && commutes_from (i + 1))
        (sym (said ∙ ap (λ (a : ℕ). anticommute z.l (stored_axes z ws) a axis) read))

    pub commutes_not : r ≡ true → commutes_from i ≡ false
    commutes_not e = turn ∙ ap (λ (c : Bool). not c && commutes_from (i + 1)) e

    pub commutes_more : r ≡ false → commutes_from i ≡ commutes_from (i + 1)
    commutes_more e = turn ∙ ap (λ (c : Bool). not c && commutes_from (i + 1)) e

-- ---- what a turn demands

module _ {z : Sizes} {xs : List ℕ} {b from end axis : ℕ} (h : CommutesPre z xs b from end axis) where
  pub entry_in : {ws : List ℕ} → Stored z ws xs → (i : ℕ) → i < end → EntryPre xs z.u b i
  entry_in s i k = record { long = s.numbers_long; rows = h.rows; here = omega (arith, h.end_in) }

  pub axes_given : (i : ℕ) → from ≤ i → i < end → (other : ℕ) → other ≡ (tagged_at xs z.u b i).axis → (other < z.axes) × (axis < z.axes)
  axes_given i low high other e = (rw e (h.axes_in_lem i low high), h.axis_in)
