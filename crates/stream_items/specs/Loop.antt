-- All items of a stream, one after the other. Assumes nothing.
use Rattle.std.specs.Prelude.{◌≡◌, Bool, ℕ, suc, ◌+◌, ◌-◌, ◌*◌, ◌≤◌, ◌<◌, length, Result, Ok, Err}
use Rattle.std.proofs.Math.Path.{refl, ap}
use Rattle.std.proofs.Common.{sym, ◌∙◌, subst, le_trans, lt_of_lt_of_le, arith}
use mathlib.Core.List.{List, [], ◌∷◌}
use Rattle.model.specs.Lists.{all_of, any_of, member}
use Rattle.model.specs.declared.Absorption.{Absorption}
use Rattle.model.specs.declared.Absorption.TheVariants.{Off as off, AtOnce as at_once, Lazy as lazy}
use Rattle.model.specs.Rules.{Rules}
use Rattle.model.specs.Items.{rot, Item, rotation, barrier}
use Rattle.model.specs.Stream.{Pass, absorb_waiting, absorb_waiting_at, absorb_all_waiting, rules_after, stream_item, stream}
use Rattle.theory.specs.Every.{Every, every_at}
use Rattle.theory.specs.Peak.{stream_rises}
use Rattle.theory.specs.StreamState.{outside}
use Rattle.layout.specs.declared.Shape.{Shape}
use Rattle.layout.specs.Rows.{items_row}
use Rattle.items.specs.declared.Tagged.{Tagged}
use Rattle.items.specs.View.{tagged_at, item_said, item_at, items_in, said_rotation, said_other, view_length, view_next, view_none, view_at_0}
use Rattle.items.specs.View.{tagged_other}
use Rattle.items.specs.Put.{EntryPre}
use Rattle.words_wellformed.specs.PassWords.{WellItem, absorb_all_waiting_well, stream_item_well}
use Rattle.words_wellformed.specs.RunWords.{TurnsItem}
use Rattle.run_wellformed.specs.StreamSteps.{absorb_all_waiting_by, stream_item_by}
use Rattle.run_wellformed.specs.WaitingItems.{Still}
use Rattle.run_wellformed.specs.Changing.{stream_item_still, still_after}
use Rattle.run_wellformed.specs.PassInside.{PassInside, inside_kept}
use Rattle.steps.specs.declared.State.{State}
use Rattle.model.specs.declared.ExpansionLimit.{ExpansionLimit}
use Rattle.model.specs.Interface.{expansion_limit}
use Rattle.stream_states.specs.declared.StreamRules.{StreamRules}
use Rattle.stream_states.specs.States.{HoldsPass, PassAt, SomePass, RulesAs, LeftS, left_none, left_then, granted_left}
use Rattle.stream_states.specs.States.{SteppedAs, as_limit, stepped_from}
use Rattle.stream_states.specs.Output.{list_forgotten}
use Rattle.stream_states.specs.Known.{axes_count, out_long}
use Rattle.stream_items.specs.WaitingList.{step_long}
use Rattle.stream_items.specs.Items.{RotationAt, AllAt, BarrierAt, barrier_put}
use Rattle.stream_items.specs.Behind.{begins_at, rules_then, state_then, rules_then_lem, state_then_lem, then_merges, then_absorbed}

-- ---- one item

pub record ItemAt (z : Shape) (c : StreamRules) (st : State) (x : Tagged) (ws xs : List ℕ) (m : Absorption) (n : ℕ)
    (p : Pass) : Type 0 where
  pub at : PassAt z m n st ws xs p
  pub axis : x.axis < st.axes
  pub turns : x.tag ≡ 0 → (0 < x.angle) × (x.angle ≤ 7)
  pub sign : (x.tag ≡ 0 → ⊥) → x.angle < 4
  pub mode : m ≡ c.absorption
  pub few_merges : st.merges < 9223372036854775808
  pub few : st.absorbed + st.out < 9223372036854775808

module _ {z : Shape} {c : StreamRules} {st : State} {x : Tagged} {ws xs : List ℕ} {m : Absorption} {n : ℕ} {p : Pass}
    (h : ItemAt z c st x ws xs m n p) where
  -- a rotation
  pub item_rotation : x.tag ≡ 0 → RotationAt z c st x.axis x.angle ws xs m n p
  item_rotation e = record {
    carrying = record {
      carry = record { at = h.at; a_in = h.axis };
      some = (h.turns e).0;
      small = (h.turns e).1;
      mode = h.mode;
      few_merges = h.few_merges;
      few = omega (arith, h.few);
    };
    few_all = h.few;
  }

  -- a barrier
  pub item_all : AllAt z c st ws xs m n p
  item_all = record { at = h.at; mode = h.mode; few = h.few }

  waiting_long : (l : ℕ) (picks : ℕ → Bool) (q : Pass) (j : ℕ) (is : List Item)
      → length (absorb_waiting l picks q j is).out ≡ length q.out
  unfolding absorb_waiting
  waiting_long l picks q j [] = refl
  waiting_long l picks q j (i ∷ is) = waiting_long l picks (absorb_waiting_at l picks q j i) (suc j) is ∙ step_long l picks q j i

  all_long : (k : Absorption) → length (absorb_all_waiting z.l k p).out ≡ length p.out
  unfolding absorb_all_waiting
  all_long off = refl
  all_long at_once = refl
  all_long lazy = waiting_long z.l _ p 0 p.out

  module _ {r : Result State ExpansionLimit} {ws₁ xs₁ : List ℕ} (left : LeftS z ws xs ws₁ xs₁)
      (call : SteppedAs z m 0 st.out st r ws₁ xs₁ (absorb_all_waiting z.l m p)) {s : State} (e : r ≡ Ok s) where
    pub same_out : s.out ≡ st.out
    same_out =
        sym (out_long (call.next s e)) ∙ all_long m ∙ out_long h.at.holds

    more_axes : st.axes ≤ s.axes
    more_axes =
        omega (
          arith,
          (absorb_all_waiting_well z.l (Unit {0}) m p h.at.fine.well).longer,
          axes_count h.at.holds,
          axes_count (call.next s e),
        )

    pub item_barrier : (x.tag ≡ 0 → ⊥) → BarrierAt z s x ws₁ xs₁ m n (absorb_all_waiting z.l m p)
    item_barrier t = record {
      carry = record {
        at = record {
          granted = granted_left h.at.granted left;
          holds = call.next s e;
          fine = record {
            well = (absorb_all_waiting_well z.l (Unit {0}) m p h.at.fine.well).well;
            inside =
                absorb_all_waiting_by z.l (PassInside z.l z.qubits) (inside_kept z.l z.qubits h.at.granted.sized.bits)
                (λ i q f. f.small) n m p h.at.fine.inside;
          };
          space = h.at.space;
        };
        a_in = omega (arith, more_axes, h.axis);
      };
      tag = t;
      sign = h.sign t;
    }

-- the model's step
barrier_item : (l : ℕ) (g : Rules) (merging : Bool) (p : Pass) (x : Tagged) → (x.tag ≡ 0 → ⊥)
    → stream_item l g merging p (item_said x) ≡ barrier_put l (absorb_all_waiting l g.absorption p) (x.tag - 1) x.axis x.angle
unfolding stream_item barrier_put
barrier_item l g merging p x n = ap (stream_item l g merging p) (said_other x n)

module _ (z : Shape) (c : StreamRules) (g : Rules) (st : State) (x : Tagged) (p : Pass) where
  pub item_as_rotation : {r : Result State ExpansionLimit} {ws xs : List ℕ} → x.tag ≡ 0
      → SteppedAs z g.absorption 1 (st.out + 1) st r ws xs (stream_item z.l g c.merge p (rotation (rot x.axis x.angle)))
      → SteppedAs z g.absorption 1 (st.out + 1) st r ws xs (stream_item z.l g c.merge p (item_said x))
  item_as_rotation {r} {ws} {xs} e s =
      subst (λ (i : Item). SteppedAs z g.absorption 1 (st.out + 1) st r ws xs (stream_item z.l g c.merge p i))
      (sym (said_rotation x e)) s

  module _ (t : x.tag ≡ 0 → ⊥) {r : Result State ExpansionLimit} {ws₁ xs₁ : List ℕ}
      (first : SteppedAs z g.absorption 0 st.out st r ws₁ xs₁ (absorb_all_waiting z.l g.absorption p)) where
    pub item_limit : r ≡ Err expansion_limit
        → SteppedAs z g.absorption 1 (st.out + 1) st (Err expansion_limit) ws₁ xs₁ (stream_item z.l g c.merge p (item_said x))
    item_limit e =
        subst (SteppedAs z g.absorption 1 (st.out + 1) st (Err expansion_limit) ws₁ xs₁) (sym (barrier_item z.l g c.merge p x t))
        (as_limit (lt_of_lt_of_le (first.refused e) rises))
      where
        rises : (absorb_all_waiting z.l g.absorption p).store.peak
            ≤ (barrier_put z.l (absorb_all_waiting z.l g.absorption p) (x.tag - 1) x.axis x.angle).store.peak
        rises = unfold barrier_put Rattle.model.specs.Stream.put_out Rattle.model.specs.Stream.with_last in
            (Rattle.theory.specs.Peak.carry_axis_rises z.l (absorb_all_waiting z.l g.absorption p) x.axis)

    pub item_as_barrier : {q : Result State ExpansionLimit} {ws₂ xs₂ : List ℕ} {s : State} → r ≡ Ok s → s.out ≡ st.out
        → SteppedAs z g.absorption 0 0 s q ws₂ xs₂
        (barrier_put z.l (absorb_all_waiting z.l g.absorption p) (x.tag - 1) x.axis x.angle)
        → SteppedAs z g.absorption 1 (st.out + 1) st q ws₂ xs₂ (stream_item z.l g c.merge p (item_said x))
    item_as_barrier {q} {ws₂} {xs₂} {s} e f second =
        subst (SteppedAs z g.absorption 1 (st.out + 1) st q ws₂ xs₂) (sym (barrier_item z.l g c.merge p x t))
        (stepped_from 1 _ second (omega (arith, first.merges s e)) (omega (arith, first.absorbed s e)))

-- ---- all items

-- before the first of k items
pub record StreamAt (z : Shape) (c : StreamRules) (st : State) (k : ℕ) (ws xs : List ℕ) (g : Rules) (p : Pass) : Type 0 where
  pub rules : RulesAs c g
  pub at : PassAt z g.absorption 0 st ws xs p
  pub items : Every (WellItem (Unit {0}) (length p.store.axes)) (items_in xs z.u items_row 0 k)
  -- nothing is put out
  pub still : Every Still p.out
  pub fits : k ≤ z.operations
  pub merges : st.merges ≡ 0
  pub absorbed : st.absorbed ≡ 0

pub record SomeStream (P : Rules → Pass → Type 0) : Type 0 where
  pub rules : Rules
  pub pass : Pass
  pub it : P rules pass

-- items i to k are still to be read, by rules d
pub record StreamNow (z : Shape) (c d : StreamRules) (k : ℕ) (xs₀ ws xs : List ℕ) (st : State) (i : ℕ) (g : Rules) (p : Pass) : Type 0 where
  pub now : Pass
  pub present : Rules
  pub said : RulesAs d present
  pub whole : stream z.l g c.merge p (items_in xs₀ z.u items_row 0 k)
      ≡ stream z.l present d.merge now (items_in xs₀ z.u items_row i (k - i))
  pub at : PassAt z present.absorption i st ws xs now
  -- absorbed at once: none waits
  pub still : present.absorption ≡ at_once → Every Still now.out
  pub longer : length p.store.axes ≤ length now.store.axes

pub record Reading (z : Shape) (c d : StreamRules) (k : ℕ) (st₀ : State) (ws₀ xs₀ ws xs : List ℕ) (st : State) (i : ℕ) : Type 0 where
  pub index : i ≤ k
  pub left : LeftS z ws₀ xs₀ ws xs
  pub merges : st.merges ≤ i
  pub absorbed : st.absorbed ≤ i * 65536
  pub at : (g : Rules) (p : Pass) → StreamAt z c st₀ k ws₀ xs₀ g p → StreamNow z c d k xs₀ ws xs st i g p

pub reading_first : {z : Shape} {c : StreamRules} {k : ℕ} {st : State} {ws xs : List ℕ} → SomeStream (λ g p. StreamAt z c st k ws xs g p)
    → Reading z c c k st ws xs ws xs st 0
reading_first {z} {c} {k} {st} {ws} {xs} s = record {
  index = omega arith;
  left = left_none z ws xs;
  merges = omega (arith, s.it.merges);
  absorbed = omega (arith, s.it.absorbed);
  at = λ g p h. record {
    now = p;
    present = g;
    said = h.rules;
    whole = ap (λ (n : ℕ). stream z.l g c.merge p (items_in xs z.u items_row 0 n)) (let e : k ≡ k - 0 = omega arith in e);
    at = h.at;
    still = λ e. h.still;
    longer = omega arith;
  };
}

-- what an item's call leaves
abbrev pub ItemLeft : Shape → StreamRules → State → Tagged → List ℕ → List ℕ → Result State ExpansionLimit → List ℕ → List ℕ → Type 0
ItemLeft z c st x ws xs r ws' xs' =
    LeftS z ws xs ws' xs'
    × ((g : Rules) (n : ℕ) (p : Pass) → RulesAs c g → ItemAt z c st x ws xs g.absorption n p
    → SteppedAs z g.absorption 1 (st.out + 1) st r ws' xs' (stream_item z.l g c.merge p (item_said x)))

module _ {z : Shape} {c d : StreamRules} {k : ℕ} {st₀ : State} {ws₀ xs₀ ws xs : List ℕ} {st : State} {i : ℕ} {x : Tagged}
    (b : Reading z c d k st₀ ws₀ xs₀ ws xs st i) (more : i < k) (read : x ≡ tagged_at xs z.u items_row i) where
  -- the row of items is as it was
  same_item : item_said x ≡ item_at xs₀ z.u items_row i
  unfolding all_of member any_of
  same_item = ap item_said (read ∙ tagged_other b.left.numbers items_row (omega arith) refl i)

  module _ {g : Rules} {p : Pass} (h : StreamAt z c st₀ k ws₀ xs₀ g p) where
    here : StreamNow z c d k xs₀ ws xs st i g p
    here = b.at g p h

    axes_now : length here.now.store.axes ≡ st.axes
    axes_now = axes_count here.at.holds

    -- what is known of the item
    well_item : WellItem (Unit {0}) (length p.store.axes) (item_said x)
    well_item =
        subst (WellItem (Unit {0}) (length p.store.axes))
        (view_at_0 item_said xs₀ z.u items_row k i outside more ∙ sym same_item)
        (every_at (WellItem (Unit {0}) (length p.store.axes)) (items_in xs₀ z.u items_row 0 k) outside i h.items
        (omega (arith, view_length item_said xs₀ z.u items_row 0 k)))

    x_axis : x.axis < length p.store.axes
    x_axis = go (native.Mathlib.Decide.ℕ_discrete x.tag 0)
      where
        go : Dec (x.tag ≡ 0) → x.axis < length p.store.axes
        go (yes e) = (subst (WellItem (Unit {0}) (length p.store.axes)) (said_rotation x e) well_item).0
        go (no n) = (subst (WellItem (Unit {0}) (length p.store.axes)) (said_other x n) well_item).0

    item_at_lem : ItemAt z d st x ws xs here.present.absorption i here.now
    item_at_lem = record {
      at = here.at;
      axis = omega (arith, x_axis, here.longer, axes_now);
      turns = λ e. (subst (WellItem (Unit {0}) (length p.store.axes)) (said_rotation x e) well_item).1 tt;
      sign = λ n. ((subst (WellItem (Unit {0}) (length p.store.axes)) (said_other x n) well_item).1 tt).below;
      mode = sym here.said.absorption;
      few_merges = omega (arith, b.merges, h.fits, h.at.granted.sized.operations);
      few = omega (arith, b.absorbed, h.fits, h.at.granted.sized.operations, here.at.fine.inside.few, out_long here.at.holds);
    }

pub reading_entry : {z : Shape} {c d : StreamRules} {k : ℕ} {st₀ : State} {ws₀ xs₀ ws xs : List ℕ} {st : State} {i : ℕ}
    → Reading z c d k st₀ ws₀ xs₀ ws xs st i → i < k → SomeStream (λ g p. StreamAt z c st₀ k ws₀ xs₀ g p) → EntryPre xs z.u items_row i
reading_entry b more s = record {
  long = omega (arith, s.it.at.granted.numbers_long, b.left.numbers.long);
  rows = omega arith;
  here = omega (arith, s.it.fits, s.it.at.granted.sized.row);
}

-- what an answer means, where q is the model's state at the stream's end; nothing waits any more, so nothing is said of it
pub record StreamedAs (z : Shape) (r : Result State ExpansionLimit) (ws xs : List ℕ) (q : Pass) : Type 0 where
  pub next : (s : State) → r ≡ Ok s → HoldsPass z off s ws xs q
  pub few : (s : State) → r ≡ Ok s → s.merges + s.absorbed ≤ 8589934592
  pub refused : r ≡ Err expansion_limit → z.limit < q.store.peak

module _ {z : Shape} {c d : StreamRules} {k : ℕ} {st₀ : State} {ws₀ xs₀ ws xs : List ℕ} {st : State} {i : ℕ} {x : Tagged}
    (b : Reading z c d k st₀ ws₀ xs₀ ws xs st i) (more : i < k) (read : x ≡ tagged_at xs z.u items_row i) where
  pub reading_turn : SomeStream (λ g p. StreamAt z c st₀ k ws₀ xs₀ g p) → SomePass (λ m n p. ItemAt z d st x ws xs m n p)
  reading_turn s = let n = here b more read s.it in
      record { absorption = n.present.absorption; items = i; pass = n.now; it = item_at_lem b more read s.it }

  -- the rest, from the state after item i
  after_item : {g : Rules} {p : Pass} (h : StreamAt z c st₀ k ws₀ xs₀ g p)
      → stream z.l g c.merge p (items_in xs₀ z.u items_row 0 k)
      ≡ stream z.l (rules_after (here b more read h).present (item_said x)) d.merge
      (stream_item z.l (here b more read h).present d.merge (here b more read h).now (item_said x))
      (items_in xs₀ z.u items_row (i + 1) (k - (i + 1)))
  unfolding stream
  after_item {g} {p} h =
      let n = here b more read h in
      n.whole
      ∙ ap (stream z.l n.present d.merge n.now) (view_next item_said xs₀ z.u items_row i k more)
      ∙ ap (λ (y : Item). stream z.l (rules_after n.present y) d.merge (stream_item z.l n.present d.merge n.now y)
      (items_in xs₀ z.u items_row (i + 1) (k - (i + 1)))) (sym (same_item b more read))

  module _ {r : Result State ExpansionLimit} {ws' xs' : List ℕ} (call : ItemLeft z d st x ws xs r ws' xs') where
    pub reading_left : LeftS z ws₀ xs₀ ws' xs'
    reading_left = left_then b.left call.0

    step : {g : Rules} {p : Pass} (h : StreamAt z c st₀ k ws₀ xs₀ g p)
        → SteppedAs z (here b more read h).present.absorption 1 (st.out + 1) st r ws' xs'
        (stream_item z.l (here b more read h).present d.merge (here b more read h).now (item_said x))
    step {g} h = let n = here b more read h in call.1 n.present i n.now n.said (item_at_lem b more read h)

    pub reading_limit : r ≡ Err expansion_limit → (g : Rules) (p : Pass) → StreamAt z c st₀ k ws₀ xs₀ g p
        → StreamedAs z (Err expansion_limit) ws' xs' (stream z.l g c.merge p (items_in xs₀ z.u items_row 0 k))
    reading_limit e g p h = record {
      next = λ s f. let o : ◌≡◌ {A = ℕ} 0 1 = cc in absurd (omega arith);
      few = λ s f. let o : ◌≡◌ {A = ℕ} 0 1 = cc in absurd (omega arith);
      refused = λ f. omega (
        arith,
        (step h).refused e,
        ap (λ (q : Pass). q.store.peak) (after_item h),
        stream_rises z.l (rules_after (here b more read h).present (item_said x)) d.merge
            (stream_item z.l (here b more read h).present d.merge (here b more read h).now (item_said x))
            (items_in xs₀ z.u items_row (i + 1) (k - (i + 1))),
      );
    }

    pub reading_next : SomeStream (λ g p. StreamAt z c st₀ k ws₀ xs₀ g p) → (s : State) → r ≡ Ok s
        → Reading z c (rules_then (begins_at d x) d) k st₀ ws₀ xs₀ ws' xs' (state_then (begins_at d x) s) (i + 1)
    reading_next some s e = record {
      index = omega arith;
      left = reading_left;
      merges = omega (arith, b.merges, (step some.it).merges s e, then_merges (begins_at d x) s);
      absorbed =
          omega (
            arith,
            b.absorbed,
            (step some.it).absorbed s e,
            then_absorbed (begins_at d x) s,
            out_few
                some.it,
            some.it.fits,
            some.it.at.granted.sized.operations,
          );
      at = λ g p h. next h;
    }
      where
        out_few : {g : Rules} {p : Pass} → StreamAt z c st₀ k ws₀ xs₀ g p → st.out ≤ i
        out_few h =
            let n = here b more read h in
            omega (arith, n.at.fine.inside.few, out_long n.at.holds)

        next : {g : Rules} {p : Pass} (h : StreamAt z c st₀ k ws₀ xs₀ g p)
            → StreamNow z c (rules_then (begins_at d x) d) k xs₀ ws' xs' (state_then (begins_at d x) s) (i + 1) g p
        next {g} {p} h =
            let n = here b more read h in
            let q = stream_item z.l n.present d.merge n.now (item_said x) in
            let goes = stream_item_well z.l (Unit {0}) n.present d.merge n.now (item_said x) n.at.fine.well more_item in
            let one : suc i ≡ i + 1 = omega arith in
            record {
              now = stream_item z.l n.present d.merge n.now (item_said x);
              present = rules_after n.present (item_said x);
              said = rules_then_lem n.said x;
              whole = after_item h;
              at = record {
                granted = granted_left n.at.granted call.0;
                holds = state_then_lem n.said x ((step h).next s e)
                    (λ o. stream_item_still z.l n.present o d.merge n.now (item_said x) (n.still o));
                fine = record {
                  well = goes.well;
                  inside = subst (λ (j : ℕ). PassInside z.l z.qubits j q) one
                      (stream_item_by z.l (PassInside z.l z.qubits) (inside_kept z.l z.qubits h.at.granted.sized.bits)
                      (λ j t f. f.small)
                      i n.present d.merge n.now (item_said x) turning n.at.fine.inside);
                };
                space = omega (arith, h.fits, h.at.granted.sized.row);
              };
              still = still_after z.l n.present d.merge n.now (item_said x) n.still;
              longer = le_trans n.longer goes.longer;
            }
          where
            -- more axes
            wider : (y : Item) → WellItem (Unit {0}) (length p.store.axes) y
                → length p.store.axes ≤ length (here b more read h).now.store.axes
                → WellItem (Unit {0}) (length (here b more read h).now.store.axes) y
            wider (rotation t) w f = (le_trans w.0 f, w.1)
            wider (barrier o a t) w f = (le_trans w.0 f, w.1)

            more_item : WellItem (Unit {0}) (length (here b more read h).now.store.axes) (item_said x)
            more_item = wider (item_said x) (well_item b more read h) (here b more read h).longer

            turns_of : (y : Item) → WellItem (Unit {0}) (length p.store.axes) y → TurnsItem y
            turns_of (rotation t) w = w.1 tt
            turns_of (barrier o a t) w = tt

            turning : TurnsItem (item_said x)
            turning = turns_of (item_said x) (well_item b more read h)

-- ---- the items are read, and all that wait are absorbed

module _ {z : Shape} {c d : StreamRules} {k : ℕ} {st₀ : State} {ws₀ xs₀ ws xs : List ℕ} {st : State} {i : ℕ}
    (b : Reading z c d k st₀ ws₀ xs₀ ws xs st i) (all : k ≤ i) where
  module _ {g : Rules} {p : Pass} (h : StreamAt z c st₀ k ws₀ xs₀ g p) where
    abbrev end : StreamNow z c d k xs₀ ws xs st i g p
    end = b.at g p h

    pub reading_end : AllAt z d st ws xs (b.at g p h).present.absorption i (b.at g p h).now
    reading_end = record {
      at = end.at;
      mode = sym end.said.absorption;
      few =
          omega (
            arith,
            b.absorbed,
            b.index,
            h.fits,
            h.at.granted.sized.operations,
            end.at.fine.inside.few,
            out_long end.at.holds,
          );
    }

    is_end : stream z.l g c.merge p (items_in xs₀ z.u items_row 0 k) ≡ absorb_all_waiting z.l end.present.absorption end.now
    unfolding stream
    is_end =
        end.whole ∙ ap (stream z.l end.present d.merge end.now) (view_none item_said xs₀ z.u items_row i (k - i) (omega arith))

    pub reading_ended : {r : Result State ExpansionLimit} {ws' xs' : List ℕ}
        → SteppedAs z (b.at g p h).present.absorption 0 st.out st r ws' xs'
        (absorb_all_waiting z.l (b.at g p h).present.absorption (b.at g p h).now)
        → StreamedAs z r ws' xs' (stream z.l g c.merge p (items_in xs₀ z.u items_row 0 k))
    reading_ended {r} {ws'} {xs'} a = record {
      next = λ s e. subst (HoldsPass z off s ws' xs') (sym is_end) (list_forgotten (a.next s e));
      few = λ s e.
          omega (
            arith,
            a.merges s e,
            a.absorbed s e,
            b.merges,
            b.absorbed,
            b.index,
            h.fits,
            h.at.granted.sized.operations,
            end.at.fine.inside.few,
            out_long end.at.holds,
          );
      refused = λ e. subst (λ (q : Pass). z.limit < q.store.peak) (sym is_end) (a.refused e);
    }

  pub reading_all : SomeStream (λ g p. StreamAt z c st₀ k ws₀ xs₀ g p) → SomePass (λ m n p. AllAt z d st ws xs m n p)
  reading_all s = record { absorption = _; items = i; pass = _; it = reading_end s.it }
