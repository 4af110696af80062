-- What is known of a stream's output and axes where memory holds it. Assumes nothing.
use Rattle.std.specs.Prelude.{◌≡◌, List, ℕ, ◌≤◌, ◌<◌, length, get_or}
use Rattle.std.proofs.Common.{ap, ◌∙◌, subst, arith}
use Rattle.model.specs.declared.Absorption.{Absorption}
use Rattle.model.specs.declared.Absorption.TheVariants.{Lazy as lazy}
use Rattle.model.specs.Items.{Item, barrier}
use Rattle.model.specs.Stream.{Pass}
use Rattle.theory.specs.Every.{every_at}
use Rattle.layout.specs.declared.Shape.{Shape}
use Rattle.layout.specs.Rows.{out_row}
use Rattle.axes.specs.Held.{sizes_of, Stored, held_stored, held_count}
use Rattle.items.specs.View.{tagged_at, item_said, item_at, said_rotation, view_at_0, view_length}
use Rattle.words_wellformed.specs.PassWords.{WellPut}
use Rattle.waiting.specs.Places.{rising_few}
use Rattle.steps.specs.declared.State.{State}
use Rattle.stream_states.specs.States.{HoldsPass, PassAt}

module _ {z : Shape} {m : Absorption} {st : State} {ws xs : List ℕ} {p : Pass} (h : HoldsPass z m st ws xs p) where
  pub axes_count : length p.store.axes ≡ st.axes
  axes_count = held_count h.clifford.axes

  pub out_long : length p.out ≡ st.out
  out_long = ap length h.out_is ∙ view_length item_said xs z.u out_row 0 st.out

module _ {z : Shape} {m : Absorption} {n : ℕ} {st : State} {ws xs : List ℕ} {p : Pass} (h : PassAt z m n st ws xs p) where
  pub out_few : st.out < z.u
  out_few = omega (arith, out_long h.holds, h.fine.inside.few, h.space)

  pub axes_few : st.axes < z.u
  axes_few = h.granted.sized.words_row st.axes (omega (arith, h.holds.clifford.room))

  -- the item at a place
  pub out_item : (i : ℕ) → i < st.out → (d : Item) → get_or p.out i d ≡ item_at xs z.u out_row i
  out_item i b d = ap (λ (is : List Item). get_or is i d) h.holds.out_is ∙ view_at_0 item_said xs z.u out_row st.out i d b

  -- a rotation's axis and angle
  pub out_rotation : (i : ℕ) → i < st.out → (tagged_at xs z.u out_row i).tag ≡ 0
      → ((tagged_at xs z.u out_row i).axis < st.axes) × ((tagged_at xs z.u out_row i).angle ≤ 7)
  out_rotation i b e =
      let w = subst (WellPut (Unit {0}) (length p.store.axes))
      (out_item i b (barrier 0 0 0) ∙ said_rotation (tagged_at xs z.u out_row i) e)
      (every_at (WellPut (Unit {0}) (length p.store.axes)) p.out (barrier 0 0 0) i h.fine.well.output
      (omega (arith, out_long h.holds))) in
      (omega (arith, w.0, axes_count h.holds), w.1 tt)

  -- both stores hold the axes
  pub axes_stored : Stored (sizes_of z st.axes) ws xs
  axes_stored = held_stored h.holds.clifford.axes

  -- there is room for one place more
  pub waiting_few : m ≡ lazy → st.waiting < z.u
  waiting_few e = omega (arith, rising_few st.waiting (h.holds.waits e).rising, out_few)
