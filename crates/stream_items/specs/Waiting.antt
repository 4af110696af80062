-- Lazy: what is done at one place of the list of waiting places. Assumes nothing.
use Rattle.std.specs.Prelude.{◌≡◌, ◌⊎◌, Bool, true, not, ◌&&◌, ℕ, ◌+◌, ◌*◌, ◌≤◌, ◌<◌, length, None, Result, Ok, Option, Some}
use Rattle.std.proofs.Math.Path.{refl, ap}
use Rattle.std.proofs.Common.{sym, ap₂, ◌∙◌, subst, inr, arith, get_or-set_same, eqb, eq-eqb, ne_eqb}
use Rattle.std.proofs.Math.Logic.{inl}
use Rattle.std.proofs.Math.Bool.{false}
use Rattle.std.proofs.lemmas.Bool.{false≢true}
use mathlib.Core.List.{List}
use Rattle.std.proofs.Math.Decide.{ℕ_discrete}
use Rattle.std.proofs.Math.ListN.{get_or}
use Rattle.store.specs.Row.{Written}
use Rattle.model.specs.Lists.{when◌then◌else◌, all_of, any_of, member, is_even}
use Rattle.model.specs.declared.Absorption.TheVariants.{Off as off}
use Rattle.model.specs.Words.{anticommute}
use Rattle.model.specs.Items.{rot, Item, rotation, barrier, is_clifford}
use Rattle.model.specs.Stream.{Pass, with_last, set_angle, leave_zero, absorb, absorb_waiting_at}
use Rattle.theory.specs.Cases.{if_true, if_false, and_left}
use Rattle.theory.specs.StreamState.{outside}
use Rattle.layout.specs.declared.Shape.{Shape}
use Rattle.layout.specs.Rows.{row_count, out_row, waiting_row}
use Rattle.layout.specs.Only.{only_of, only_written}
use Rattle.layout.specs.Words.{kept_none}
use Rattle.layout.specs.Shape.{longest_row}
use Rattle.axes.specs.declared.Sizes.{Sizes}
use Rattle.axes.specs.Held.{sizes_of, stored_axes, Stored}
use Rattle.items.specs.declared.Tagged.{Tagged}
use Rattle.items.specs.View.{tagged_at, item_said, item_at, said_rotation, said_other}
use Rattle.items.specs.Put.{EntryPre}
use Rattle.waiting.specs.Places.{place_in, place_own, place_other}
use Rattle.steps.specs.declared.State.{State}
use Rattle.model.specs.declared.ExpansionLimit.{ExpansionLimit}
use Rattle.steps.specs.State.{with_waiting}
use Rattle.stream_states.specs.States.{is_waiting, PassAt, stream_rows, LeftS}
use Rattle.stream_states.specs.States.{SteppedAs, as_next}
use Rattle.stream_states.specs.Output.{never, with_list}
use Rattle.stream_states.specs.Known.{out_long, out_few, out_item, out_rotation, axes_stored}
use Rattle.merging.specs.Steps.{LeftAbsorbed}
use Rattle.merging.specs.Taking.{MergedAt, even_quarters}
use Rattle.merging.specs.LookedUp.{none_told}

-- ---- which rotations wait

pub waits_barrier : (x : Tagged) → (x.tag ≡ 0 → ⊥) → false ≡ is_waiting (item_said x)
waits_barrier x n = sym (ap is_waiting (said_other x n))

pub waits_zero : (x : Tagged) → x.tag ≡ 0 → x.angle ≡ 0 → false ≡ is_waiting (item_said x)
waits_zero x e f = sym (ap is_waiting (said_rotation x e) ∙ ap is_clifford f)

pub waits_even : (x : Tagged) → x.tag ≡ 0 → (x.angle ≡ 0 → ⊥) → is_even x.angle ≡ is_waiting (item_said x)
waits_even x e n =
    sym (ap is_waiting (said_rotation x e) ∙ ap (λ (t : Bool). is_even x.angle && not t) (ne_eqb x.angle 0 n)
    ∙ same (is_even x.angle))
  where
    same : (t : Bool) → t && true ≡ t
    same true = refl
    same false = refl

-- where it is not both a rotation and by something
pub waits_none : {t : Bool} (x : Tagged) → t ≡ not (eqb x.angle 0) → x.tag ≡ 0 → ((x.tag ≡ 0) × (x.angle ≡ 0)) ⊎ (x.tag ≡ 0 → ⊥)
    → t ≡ is_waiting (item_said x)
waits_none x e f (inl k) = e ∙ ap not (eq-eqb x.angle 0 k.1) ∙ waits_zero x f k.1
waits_none x e f (inr n) = absurd (n f)

-- a waiting one is a rotation, even and not 0
waiting_tag : (x : Tagged) → is_waiting (item_said x) ≡ true → x.tag ≡ 0
waiting_tag x e = go (ℕ_discrete x.tag 0)
  where
    go : Dec (x.tag ≡ 0) → x.tag ≡ 0
    go (yes f) = f
    go (no n) = absurd (false≢true (waits_barrier x n ∙ e))

waiting_angle : (x : Tagged) → is_waiting (item_said x) ≡ true → is_clifford x.angle ≡ true
waiting_angle x e = sym (ap is_waiting (said_rotation x (waiting_tag x e))) ∙ e

clifford_some : (k : ℕ) → is_clifford k ≡ true → (k ≡ 0 → ⊥)
clifford_some k e f = false≢true (sym (ap is_clifford f) ∙ e)

-- ---- which are picked: all, or only those that anticommute with an axis

unfoldable pub picked_by : Option ℕ → ℕ → List (List ℕ) → ℕ → Bool
picked_by None l axes b = true
picked_by (Some id) l axes b = anticommute l axes b id

pub record PicksPre (z : Sizes) (only : Option ℕ) (b : ℕ) : Type 0 where
  pub there : b < z.axes
  pub axis : (id : ℕ) → only ≡ Some id → id < z.axes

pub picks_all : (z : Sizes) {only : Option ℕ} (b : ℕ) (ws : List ℕ) → only ≡ None → true ≡ picked_by only z.l (stored_axes z ws) b
unfolding picked_by
picks_all z b ws e = ap (λ (o : Option ℕ). picked_by o z.l (stored_axes z ws) b) (sym e)

pub picks_some : (z : Sizes) {only : Option ℕ} {id : ℕ} (b : ℕ) (ws : List ℕ) {r : Bool} → only ≡ Some id
    → r ≡ anticommute z.l (stored_axes z ws) b id
    → r ≡ picked_by only z.l (stored_axes z ws) b
unfolding picked_by
picks_some z b ws e h = h ∙ ap (λ (o : Option ℕ). picked_by o z.l (stored_axes z ws) b) (sym e)

-- ---- one place of the list

pub record TurnAt (z : Shape) (st : State) (only : Option ℕ) (i : ℕ) (ws xs : List ℕ) (n : ℕ) (p : Pass) : Type 0 where
  pub at : PassAt z off n st ws xs p
  pub index : i < z.u
  pub kept : st.waiting ≤ i
  pub place : place_in z.u xs i < st.out
  pub id_in : (id : ℕ) → only ≡ Some id → id < st.axes
  pub few : st.absorbed < 9223372036854775808

-- the model's next state, where place j has its turn
abbrev pub waited_at : Shape → Option ℕ → ℕ → List ℕ → Pass → Pass
waited_at z only j xs p = absorb_waiting_at z.l (picked_by only z.l p.store.axes) p j (item_at xs z.u out_row j)

-- place i does not wait any more
pub record GoneFrom (z : Shape) (st s : State) (xs : List ℕ) (i : ℕ) (q : Pass) : Type 0 where
  pub count : s.waiting ≡ st.waiting
  pub quiet : is_waiting (get_or q.out (place_in z.u xs i) outside) ≡ false

-- or it is kept
pub record KeptIn (z : Shape) (st s : State) (xs : List ℕ) (i : ℕ) (xs' : List ℕ) : Type 0 where
  pub count : s.waiting ≡ st.waiting + 1
  pub here : place_in z.u xs' st.waiting ≡ place_in z.u xs i

abbrev pub TurnOf : Shape → State → State → List ℕ → ℕ → List ℕ → Pass → Type 0
TurnOf z st s xs i xs' q = GoneFrom z st s xs i q ⊎ KeptIn z st s xs i xs'

-- of the list: places behind i and those that are kept are as they were; place i does not wait any more, or is kept
pub record TurnedAs (z : Shape) (st : State) (only : Option ℕ) (i : ℕ) (xs : List ℕ) (p : Pass) (r : Result State ExpansionLimit)
    (ws' xs' : List ℕ) : Type 0 where
  pub stepped : SteppedAs z off 0 1 st r ws' xs' (waited_at z only (place_in z.u xs i) xs p)
  pub same : (k : ℕ) → (k < st.waiting) ⊎ (i < k) → place_in z.u xs' k ≡ place_in z.u xs k
  pub turned : (s : State) → r ≡ Ok s → TurnOf z st s xs i xs' (waited_at z only (place_in z.u xs i) xs p)

-- an item that does not wait, or is not picked
pub pass_over : (l : ℕ) (picks : ℕ → Bool) (p : Pass) (j : ℕ) (i : Item) → is_waiting i ≡ false → absorb_waiting_at l picks p j i ≡ p
unfolding absorb_waiting_at
pass_over l picks p j (rotation r) e = if_false _ _ (ap (λ (t : Bool). t && picks r.axis) e)
pass_over l picks p j (barrier o a s) e = refl

module _ (l : ℕ) (picks : ℕ → Bool) (p : Pass) (j : ℕ) (x : Tagged) (waits : is_waiting (item_said x) ≡ true) where
  as_rotation : absorb_waiting_at l picks p j (item_said x)
      ≡ (when is_clifford x.angle && picks x.axis then leave_zero j x.axis (absorb l p x.axis x.angle) else p)
  unfolding absorb_waiting_at
  as_rotation = ap (absorb_waiting_at l picks p j) (said_rotation x (waiting_tag x waits))

  picked : picks x.axis ≡ true → absorb_waiting_at l picks p j (item_said x) ≡ leave_zero j x.axis (absorb l p x.axis x.angle)
  picked e = as_rotation ∙ if_true _ _ (ap₂ (λ (s t : Bool). s && t) (waiting_angle x waits) e)

  not_picked : picks x.axis ≡ false → absorb_waiting_at l picks p j (item_said x) ≡ p
  not_picked e = as_rotation ∙ if_false _ _ (ap₂ (λ (s t : Bool). s && t) (waiting_angle x waits) e)

module _ {z : Shape} {st : State} {only : Option ℕ} {i : ℕ} {ws xs : List ℕ} {n : ℕ} {p : Pass} (h : TurnAt z st only i ws xs n p) where
  pub turn_read : (row_count * z.u ≤ length xs) × (waiting_row < row_count) × (i < z.u)
  turn_read = (h.at.granted.numbers_long, omega arith, h.index)

  module _ {j : ℕ} (place : j ≡ place_in z.u xs i) where
    j_in : j < st.out
    j_in = omega (arith, h.place)

    pub turn_entry : EntryPre xs z.u out_row j
    turn_entry = record { long = h.at.granted.numbers_long; rows = omega arith; here = omega (arith, j_in, out_few h.at) }

    pub turn_small : j < longest_row
    turn_small = omega (arith, j_in, out_few h.at, h.at.granted.sized.u_small)

    -- the answer, at the place that was read
    at_place : {r : Result State ExpansionLimit} {ws' xs' : List ℕ} → SteppedAs z off 0 1 st r ws' xs' (waited_at z only j xs p)
        → ((k : ℕ) → (k < st.waiting) ⊎ (i < k) → place_in z.u xs' k ≡ place_in z.u xs k)
        → ((s : State) → r ≡ Ok s → TurnOf z st s xs i xs' (waited_at z only j xs p)) → TurnedAs z st only i xs p r ws' xs'
    at_place {r} {ws'} {xs'} a b c = record {
      stepped = subst (λ (x : ℕ). SteppedAs z off 0 1 st r ws' xs' (waited_at z only x xs p)) place a;
      same = b;
      turned = λ s e. subst (λ (x : ℕ). TurnOf z st s xs i xs' (waited_at z only x xs p)) place (c s e);
    }

    -- it does not wait
    pub turned_over : {x : Tagged} {t : Bool} → x ≡ tagged_at xs z.u out_row j → t ≡ is_waiting (item_said x) → t ≡ false
        → TurnedAs z st only i xs p (Ok st) ws xs
    turned_over {x} {t} e f g =
        let no : is_waiting (item_at xs z.u out_row j) ≡ false = ap (λ (y : Tagged). is_waiting (item_said y)) (sym e) ∙ sym f ∙ g in
        let same = pass_over z.l (picked_by only z.l p.store.axes) p j (item_at xs z.u out_row j) no in
        at_place (subst (SteppedAs z off 0 1 st (Ok st) ws xs) (sym same) (as_next h.at.holds (omega arith) (omega arith)))
        (λ k o. refl) (λ s o. let y : st ≡ s = cc in inl (record {
          count = sym (ap (λ (v : State). v.waiting) y);
          quiet =
              ap (λ (v : ℕ). is_waiting (get_or (waited_at z only j xs p).out v outside)) (sym place)
              ∙ ap (λ (q : Pass). is_waiting (get_or q.out j outside)) same ∙ ap is_waiting (out_item h.at j j_in outside) ∙ no;
        }))

    module _ {x : Tagged} {t : Bool} (read : x ≡ tagged_at xs z.u out_row j) (said : t ≡ is_waiting (item_said x)) (waits : t ≡ true) where
      x_waits : is_waiting (item_said x) ≡ true
      x_waits = sym said ∙ waits

      x_rotation : (x.axis < st.axes) × (x.angle ≤ 7)
      x_rotation =
          let r = out_rotation h.at j j_in (ap (λ (y : Tagged). y.tag) (sym read) ∙ waiting_tag x x_waits) in
          (omega (arith, ap (λ (y : Tagged). y.axis) read, r.0), omega (arith, ap (λ (y : Tagged). y.angle) read, r.1))

      item_is : item_at xs z.u out_row j ≡ item_said x
      item_is = ap item_said (sym read)

      module _ {y : Sizes} (sizes : y ≡ sizes_of z st.axes) where
        pub turn_held : Stored y ws xs
        turn_held = rw sizes (axes_stored h.at)

        pub turn_picks : PicksPre y only x.axis
        turn_picks = rw sizes (record { there = x_rotation.0; axis = h.id_in })

        -- what the test says of the model's
        picks_is : {s : Bool} → s ≡ picked_by only y.l (stored_axes y ws) x.axis
            → s ≡ picked_by only z.l p.store.axes x.axis
        picks_is k =
            k ∙ ap (λ (v : Sizes). picked_by only v.l (stored_axes v ws) x.axis) sizes
            ∙ ap (λ (axes : List (List ℕ)). picked_by only z.l axes x.axis) h.at.holds.clifford.axes.are

        -- it is left to wait
        pub turned_left : {s : Bool} {after : State} {xs' : List ℕ} → s ≡ picked_by only y.l (stored_axes y ws) x.axis → s ≡ false
            → Written xs z.u waiting_row st.waiting j xs' → after ≡ with_waiting (st.waiting + 1) st
            → TurnedAs z st only i xs p (Ok after) ws xs'
        turned_left {s} {after} {xs'} k e wrote g =
            let same = ap (absorb_waiting_at z.l (picked_by only z.l p.store.axes) p j) item_is
            ∙ not_picked z.l (picked_by only z.l p.store.axes) p j x x_waits (sym (picks_is k) ∙ e) in
            let fits : st.waiting < z.u = omega (arith, h.kept, h.index) in
            subst (λ (v : State). TurnedAs z st only i xs p (Ok v) ws xs') (sym g)
            (at_place (subst (SteppedAs z off 0 1 st (Ok (with_waiting (st.waiting + 1) st)) ws xs') (sym same)
            (as_next (with_list (st.waiting + 1) (only_written h.at.granted.numbers_long (omega arith) fits wrote) h.at.holds
            (λ o. absurd (never o))) (omega arith) (omega arith)))
            (λ v o. place_other h.at.granted.numbers_long fits wrote v (differs v o))
            (λ v o. let w : with_waiting (st.waiting + 1) st ≡ v = cc in inr (record {
              count = sym (ap (λ (u : State). u.waiting) w);
              here = place_own h.at.granted.numbers_long fits wrote ∙ place;
            })))
          where
            differs : (v : ℕ) → (v < st.waiting) ⊎ (i < v) → (v ≡ st.waiting → ⊥)
            differs v (inl o) = omega arith
            differs v (inr o) = omega (arith, h.kept)

        pub left_kept : {xs' : List ℕ} → Written xs z.u waiting_row st.waiting j xs' → LeftS z ws xs ws xs'
        unfolding all_of member any_of
        left_kept wrote = record {
          words = kept_none _ ws;
          numbers =
              only_of stream_rows refl
              (only_written h.at.granted.numbers_long (omega arith)
              (let b : st.waiting < z.u = omega (arith, h.kept, h.index) in b) wrote);
        }

        pub turned_absorbed : {s : Bool} {r : Result State ExpansionLimit} {ws' xs' : List ℕ} → s ≡ picked_by only y.l (stored_axes y ws) x.axis
            → s ≡ true
            → LeftAbsorbed z st ws xs r ws' xs'
            → SteppedAs z off 0 1 st r ws' xs' (leave_zero j x.axis (absorb z.l p x.axis x.angle))
            → TurnedAs z st only i xs p r ws' xs'
        unfolding member any_of
        turned_absorbed {s} {r} {ws'} {xs'} k e left done =
            let same = ap (absorb_waiting_at z.l (picked_by only z.l p.store.axes) p j) item_is
            ∙ picked z.l (picked_by only z.l p.store.axes) p j x x_waits (sym (picks_is k) ∙ e) in
            at_place (subst (SteppedAs z off 0 1 st r ws' xs') (sym same) done)
            (λ v o. ap (λ (q : List ℕ). get_or q v 0) (left.numbers.rows waiting_row (omega arith) refl))
            (λ v o. inl (record {
              count = left.list v o;
              quiet =
                  ap (λ (q : ℕ). is_waiting (get_or (waited_at z only j xs p).out q outside)) (sym place)
                  ∙ ap (λ (q : Pass). is_waiting (get_or q.out j outside)) same ∙ zero_quiet;
            }))
          where
            zero_quiet : is_waiting (get_or (leave_zero j x.axis (absorb z.l p x.axis x.angle)).out j outside) ≡ false
            zero_quiet =
                unfold leave_zero set_angle with_last absorb in
                (ap is_waiting (get_or-set_same p.out j (rotation (rot x.axis 0)) outside
                (omega (arith, j_in, out_long h.at.holds))))

      pub turn_merged : MergedAt z st j x.axis x.angle None ws xs off n p
      turn_merged = record {
        at = record {
          at = h.at;
          id_in = x_rotation.0;
          quarters =
              even_quarters x.angle (and_left (is_even x.angle) _ (waiting_angle x x_waits))
              (clifford_some x.angle (waiting_angle x x_waits))
              x_rotation.1;
          few = h.few;
          known = λ b e. none_told b e;
        };
        place = j_in;
      }
