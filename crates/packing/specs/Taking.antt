-- What an answer of `take_slot` means for the model, whose free slots are those in memory. Assumes nothing.
use Rattle.std.specs.Prelude.{◌≡◌, refl, ◌⊎◌, List, length, Result, Ok, Err}
use Rattle.std.proofs.Common.{sym, subst, inl, inr, ⊎_elim, add-one, arith, ltb-true, ltb-false, lt-ltb, le-ltb}
use Rattle.std.proofs.Math.Path.{ap, ap₂}
use Prim.Native.Nat.{ℕ, suc, ◌+◌, ◌-◌, ◌*◌, ◌≤◌, ◌<◌, max}
use Rattle.std.proofs.Math.Nat.{add-mul}
use Rattle.store.specs.Row.{row}
use Rattle.model.specs.Words.{Value, tested}
use Rattle.model.specs.Packing.{Pack, with_store, with_slots, take_slot}
use Rattle.theory.specs.Cases.{on_if, if_true, if_false}
use Rattle.layout.specs.declared.Shape.{Shape}
use Rattle.layout.specs.Rows.{node_slot, free_row}
use Rattle.packing.specs.declared.Slots.{Slots}
use Rattle.model.specs.declared.ExpansionLimit.{ExpansionLimit}
use Rattle.model.specs.Interface.{expansion_limit}
use Rattle.packing.specs.Holding.{SlotsHold}
use Rattle.packing.specs.Values.{slot_sum, free_taken, new_taken, taken}
use Rattle.packing.specs.Keeping.{Takes, takes_free, takes_new}

-- ---- answers

-- the slot freed last
abbrev Freed : Shape → List ℕ → Slots → Slots → Type 0
Freed z xs st st' = (0 < st.free) × (free_taken z xs st ≡ st')

-- a new one within the limit
abbrev New : Shape → Slots → Slots → Type 0
New z st st' = (st.free ≡ 0) × ((slot_sum z st ≤ z.limit) × (new_taken z st ≡ st'))

-- what the answer means; without a slot none is free, and a new one exceeds the limit
abbrev TakenAs : Shape → List ℕ → Slots → Result Slots ExpansionLimit → Type 0
TakenAs z xs st (Ok st') = Freed z xs st st' ⊎ New z st st'
TakenAs z xs st (Err e) = (st.free ≡ 0) × (z.limit < slot_sum z st)

taken_is : (z : Shape) (xs : List ℕ) (st : Slots) → TakenAs z xs st (taken z xs st)
unfolding taken
taken_is z xs st =
    on_if (TakenAs z xs st) _ _ _ (λ e. inl (ltb-true 0 st.free e, refl))
    (λ e. let none = ltb-false 0 st.free e in
    on_if (TakenAs z xs st) _ _ _ (λ f. (omega arith, ltb-true z.limit (slot_sum z st) f))
    (λ f. inr (omega arith, (ltb-false z.limit (slot_sum z st) f, refl))))

-- ---- the model

-- a free slot is reused
model_free : (l : ℕ) (k : Pack) → k.live < k.slots → take_slot l k ≡ with_slots (suc k.live) k.slots k
unfolding take_slot
model_free l k h = if_true _ _ (lt-ltb k.live k.slots h)

-- a new one is tested
model_new : (l : ℕ) (k : Pack) → k.slots ≤ k.live → take_slot l k
    ≡ with_slots (suc k.live) (suc k.slots) (with_store (tested ((suc k.slots + length k.store.axes) * (2 * l)) k.store) k)
unfolding take_slot
model_new l k h = if_false _ _ (le-ltb k.live k.slots h)

-- ---- both

-- k is before, q after, st in memory then
pub record Took (z : Shape) (n axes slots free : ℕ) (slot_row stack : List ℕ) (k q : Pack) (st : Slots) : Type 0 where
  pub takes : Takes n slots free k.uses slot_row stack st.taken st.slots st.free
  pub room : st.slots * (2 * z.l) + st.axes * (2 * z.l) ≤ z.limit
  pub same_axes : st.axes ≡ axes
  pub slots_are : q.slots ≡ st.slots
  pub all : q.live + st.free ≡ st.slots
  pub live_more : q.live ≡ suc k.live
  pub stored : q.store.axes ≡ k.store.axes
  pub peak : q.store.peak ≡ st.peak
  pub fits : q.store.peak ≤ z.limit
  pub refused : q.refused ≡ k.refused
  pub uses : q.uses ≡ k.uses

module _ (z : Shape) (n : ℕ) (value : ℕ → Value) (xs ws phase_row : List ℕ) (st : Slots) (k : Pack)
    (slots_are : k.slots ≡ st.slots) (all : k.live + st.free ≡ st.slots) (axes_are : length k.store.axes ≡ st.axes) where
  -- the model's sum
  same_sum : slot_sum z st ≡ (suc k.slots + length k.store.axes) * (2 * z.l)
  same_sum = rw (← slots_are, ← axes_are, add-one k.slots) refl

  -- the limit refuses a new slot
  pub took_none : taken z xs st ≡ Err expansion_limit → z.limit < (take_slot z.l k).store.peak
  unfolding tested
  took_none e =
      let f = rw e at (taken_is z xs st) in
      let m = ap (λ (q : Pack). q.store.peak) (model_new z.l k (omega (arith, f.0))) in
      omega (arith, f.1, same_sum)

  module _
      (held : SlotsHold z.l z.limit n st.slots st.free value k.uses (row xs z.u node_slot) phase_row
      (row xs z.u free_row) ws)
      (room : st.slots * (2 * z.l) + st.axes * (2 * z.l) ≤ z.limit) (peak : k.store.peak ≡ st.peak)
      (fits : k.store.peak ≤ z.limit) where
    abbrev TookTo : Slots → Type 0
    TookTo st' = Took z n st.axes st.slots st.free (row xs z.u node_slot) (row xs z.u free_row) k (take_slot z.l k) st'

    took_free : 0 < st.free → TookTo (free_taken z xs st)
    took_free h = rw (model_free z.l k (omega arith)) (record {
      takes = takes_free held (st.free - 1) (omega arith);
      room = room;
      same_axes = refl;
      slots_are = slots_are;
      all = omega arith;
      live_more = refl;
      stored = refl;
      peak = peak;
      fits = fits;
      refused = refl;
      uses = refl;
    })

    took_new : st.free ≡ 0 → slot_sum z st ≤ z.limit → TookTo (new_taken z st)
    unfolding tested
    took_new h f =
        rw (model_new z.l k (omega arith)) (record {
          takes = takes_new held;
          room = omega (arith, add-mul (st.slots + 1) st.axes (2 * z.l));
          same_axes = refl;
          slots_are = omega arith;
          all = omega arith;
          live_more = refl;
          stored = refl;
          peak = ap₂ max peak (sym same_sum);
          fits = omega (arith, same_sum);
          refused = refl;
          uses = refl;
        })

    -- a slot is taken
    pub took_slot : {st' : Slots} → taken z xs st ≡ Ok st' → TookTo st'
    took_slot e =
        ⊎_elim (λ a. subst TookTo a.1 (took_free a.0)) (λ a. subst TookTo a.1.1 (took_new a.0 a.1.0))
        (rw e at (taken_is z xs st))
