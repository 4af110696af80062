-- The list of waiting places, place by place: what is left of it is what the model absorbs. Assumes nothing.
use Rattle.std.specs.Prelude.{◌≡◌, Bool, true, false, ℕ, zero, suc, ◌+◌, ◌-◌, ◌≤◌, ◌<◌, Result, Ok, Err, Option, Some}
use Rattle.std.proofs.Math.Path.{refl, ap, ap₂}
use Rattle.std.proofs.Common.{sym, ◌∙◌, subst, inl, inr, true≢false, arith}
use mathlib.Core.List.{List, [], ◌∷◌}
use Rattle.std.proofs.Math.Decide.{ℕ_discrete, dec_lt}
use lib.ListN.{length, get_or, drop, length-set}
use lib.Seq.{drop-cons, drop-length, get_or-drop, drop-set-lt, get_or-set_other}
use Rattle.model.specs.declared.Absorption.TheVariants.{Off as off, Lazy as lazy}
use Rattle.model.specs.Items.{rot, Item, rotation, barrier}
use Rattle.model.specs.Stream.{Pass, with_last, set_angle, leave_zero, absorb, absorb_waiting_at, absorb_waiting}
use Rattle.theory.specs.Cases.{by_if}
use Rattle.theory.specs.Every.{every_at}
use Rattle.theory.specs.StreamState.{outside, absorb_axes}
use Rattle.theory.specs.Peak.{absorb_waiting_rises}
use Rattle.layout.specs.declared.Shape.{Shape}
use Rattle.layout.specs.Rows.{out_row, waiting_row}
use Rattle.layout.specs.Only.{only_none}
use Rattle.items.specs.View.{item_at}
use Rattle.waiting.specs.Places.{place_in, Rising, Named, rising_few}
use Rattle.words_wellformed.specs.PassWords.{WellPut, absorb_waiting_at_well}
use Rattle.run_wellformed.specs.CliffordAngles.{SmallItem}
use Rattle.run_wellformed.specs.StreamSteps.{absorb_waiting_at_by}
use Rattle.run_wellformed.specs.PassInside.{PassInside, inside_kept}
use Rattle.steps.specs.declared.State.{State}
use Rattle.model.specs.declared.ExpansionLimit.{ExpansionLimit}
use Rattle.model.specs.Interface.{expansion_limit}
use Rattle.steps.specs.State.{with_waiting}
use Rattle.stream_states.specs.States.{is_waiting, Waits, HoldsPass, FinePass, PassAt, SomePass, LeftS, left_none}
use Rattle.stream_states.specs.States.{left_then}
use Rattle.stream_states.specs.States.{granted_left, SteppedAs, as_next, as_limit, stepped_from}
use Rattle.stream_states.specs.Output.{without_list, with_list}
use Rattle.stream_states.specs.Known.{axes_count, out_long, out_few, out_item}
use Rattle.stream_items.specs.Waiting.{picked_by, TurnAt, TurnOf, TurnedAs, waited_at, pass_over}

-- before the first of n places, where none is kept so far
pub record ListedAt (z : Shape) (st : State) (n : ℕ) (only : Option ℕ) (ws xs : List ℕ) (k : ℕ) (p : Pass) : Type 0 where
  pub at : PassAt z off k st ws xs p
  pub none : st.waiting ≡ 0
  pub list : Waits z xs n st.out
  pub id_in : (id : ℕ) → only ≡ Some id → id < st.axes
  pub few : st.absorbed + st.out < 9223372036854775808

-- those of the output that wait and are picked are absorbed
abbrev pub waited_all : Shape → Option ℕ → Pass → Pass
waited_all z only p = absorb_waiting z.l (picked_by only z.l p.store.axes) p 0 p.out

-- a quiet front changes nothing
skip : (l : ℕ) (picks : ℕ → Bool) (p : Pass) (j : ℕ) (is : List Item) (k : ℕ) → k ≤ length is
    → ((i : ℕ) → i < k → is_waiting (get_or is i outside) ≡ false) → absorb_waiting l picks p j is ≡ absorb_waiting l picks p (j + k) (drop k is)
unfolding absorb_waiting
skip l picks p j is zero b h = ap (λ (i : ℕ). absorb_waiting l picks p i is) (let e : j ≡ j + 0 = omega arith in e)
skip l picks p j [] (suc k) b h = absurd (omega arith)
skip l picks p j (x ∷ is) (suc k) b h =
    ap (λ (q : Pass). absorb_waiting l picks q (suc j) is) (pass_over l picks p j x (h 0 (omega arith)))
    ∙ skip l picks p (suc j) is k (omega arith) (λ i c. h (suc i) (omega arith))
    ∙ ap (λ (i : ℕ). absorb_waiting l picks p i (drop k is)) (let e : suc j + k ≡ j + suc k = omega arith in e)

-- what one step leaves of the output and the axes
module _ (l : ℕ) (picks : ℕ → Bool) (p : Pass) (j : ℕ) where
  step_axes : (i : Item) → (absorb_waiting_at l picks p j i).store.axes ≡ p.store.axes
  unfolding absorb_waiting_at
  step_axes (rotation r) =
      by_if (λ (q : Pass). q.store.axes ≡ p.store.axes) _ _ _
      (unfold leave_zero set_angle with_last in (absorb_axes l p r.axis r.angle)) refl
  step_axes (barrier o a s) = refl

  pub step_long : (i : Item) → length (absorb_waiting_at l picks p j i).out ≡ length p.out
  unfolding absorb_waiting_at
  step_long (rotation r) =
      by_if (λ (q : Pass). length q.out ≡ length p.out) _ _ _
      (unfold leave_zero set_angle with_last absorb in (length-set p.out j (rotation (rot r.axis 0)))) refl
  step_long (barrier o a s) = refl

  step_other : (i : Item) (k : ℕ) → (k ≡ j → ⊥) → get_or (absorb_waiting_at l picks p j i).out k outside ≡ get_or p.out k outside
  unfolding absorb_waiting_at
  step_other (rotation r) k n =
      by_if (λ (q : Pass). get_or q.out k outside ≡ get_or p.out k outside) _ _ _
      (unfold leave_zero set_angle with_last absorb in (get_or-set_other p.out j k (rotation (rot r.axis 0)) outside n)) refl
  step_other (barrier o a s) k n = refl

  step_rest : (i : Item) → drop (suc j) (absorb_waiting_at l picks p j i).out ≡ drop (suc j) p.out
  unfolding absorb_waiting_at
  step_rest (rotation r) =
      by_if (λ (q : Pass). drop (suc j) q.out ≡ drop (suc j) p.out) _ _ _
      (unfold leave_zero set_angle with_last absorb in (drop-set-lt (suc j) p.out j (rotation (rot r.axis 0)) (omega arith))) refl
  step_rest (barrier o a s) = refl

-- places i to n of the list have not had their turn; outputs below `place` have
pub record WaitNow (z : Shape) (st₀ : State) (n : ℕ) (only : Option ℕ) (ws xs : List ℕ) (st : State) (i k : ℕ) (p : Pass) : Type 0 where
  pub now : Pass
  pub place : ℕ
  pub inside : place ≤ st.out
  pub whole : waited_all z only p ≡ absorb_waiting z.l (picked_by only z.l p.store.axes) now place (drop place p.out)
  pub axes : now.store.axes ≡ p.store.axes
  pub rest : drop place now.out ≡ drop place p.out
  pub at : PassAt z off k st ws xs now
  pub long : st.out ≡ st₀.out
  pub ahead : Rising (place_in z.u xs) i n st.out
  pub later : (v : ℕ) → i ≤ v → v < n → place ≤ place_in z.u xs v
  pub kept : Rising (place_in z.u xs) 0 st.waiting place
  -- which outputs wait
  pub named : (j : ℕ) → place ≤ j → j < st.out → is_waiting (get_or now.out j outside) ≡ true → Named (place_in z.u xs) i n j
  pub waits : (j : ℕ) → j < place → is_waiting (get_or now.out j outside) ≡ true → Named (place_in z.u xs) 0 st.waiting j

pub record Scan (z : Shape) (st₀ : State) (n : ℕ) (only : Option ℕ) (ws₀ xs₀ ws xs : List ℕ) (st : State) (i : ℕ) : Type 0 where
  pub index : i ≤ n
  pub left : LeftS z ws₀ xs₀ ws xs
  pub few : st.waiting ≤ i
  pub merges : st.merges ≤ st₀.merges
  pub absorbed : st.absorbed ≤ st₀.absorbed + i
  pub at : (k : ℕ) (p : Pass) → ListedAt z st₀ n only ws₀ xs₀ k p → WaitNow z st₀ n only ws xs st i k p

pub scan_first : {z : Shape} {st : State} {n : ℕ} {only : Option ℕ} {ws xs : List ℕ}
    → SomePass (λ m k p. ListedAt z st n only ws xs k p)
    → Scan z st n only ws xs ws xs st 0
scan_first {z} {st} {n} {only} {ws} {xs} some = record {
  index = omega arith;
  left = left_none z ws xs;
  few = omega (arith, some.it.none);
  merges = omega arith;
  absorbed = omega arith;
  at = λ k p h. record {
    now = p;
    place = 0;
    inside = omega arith;
    whole = refl;
    axes = refl;
    rest = refl;
    at = h.at;
    long = refl;
    ahead = h.list.rising;
    later = λ v b c. omega arith;
    kept = record {
      below = λ v b c. absurd (omega (arith, some.it.none));
      rises = λ v w b c d. absurd (omega (arith, some.it.none));
    };
    named = λ j b c e. h.list.all j c (sym (ap is_waiting (out_item h.at j c outside)) ∙ e);
    waits = λ j b e. absurd (omega arith);
  };
}

-- outputs from `place` up to j do not wait if the list names none of them
module _ {z : Shape} {st₀ : State} {n : ℕ} {only : Option ℕ} {ws xs : List ℕ} {st : State} {i k : ℕ} {p : Pass}
    (h : WaitNow z st₀ n only ws xs st i k p) where
  quiet_one : (j v : ℕ) → j ≤ st.out → ((x : ℕ) → i ≤ x → x < n → j ≤ place_in z.u xs x) → h.place ≤ v → v < j
      → is_waiting (get_or h.now.out v outside) ≡ false
  quiet_one j v b none c d = go (is_waiting (get_or h.now.out v outside)) refl
    where
      go : (t : Bool) → is_waiting (get_or h.now.out v outside) ≡ t → t ≡ false
      go true e =
          let x = h.named v c (omega arith) e in
          absurd (omega (arith, none x.index x.low x.high, x.here))
      go false e = refl

  -- the same in the model's output before
  same_behind : (v : ℕ) → get_or (drop h.place p.out) v outside ≡ get_or h.now.out (h.place + v) outside
  same_behind v = ap (λ (is : List Item). get_or is v outside) (sym h.rest) ∙ get_or-drop h.place h.now.out v outside

  -- so they are passed over
  pass_to : (j : ℕ) → h.place ≤ j → j ≤ st.out → length p.out ≡ st.out → ((x : ℕ) → i ≤ x → x < n → j ≤ place_in z.u xs x)
      → (waited_all z only p ≡ absorb_waiting z.l (picked_by only z.l p.store.axes) h.now j (drop j p.out))
      × (drop j h.now.out ≡ drop j p.out)
  pass_to j b c long none = (
    h.whole
        ∙ skip z.l (picked_by only z.l p.store.axes) h.now h.place (drop h.place p.out) (j - h.place)
        (omega (arith, drop_long))
        (λ v d. ap is_waiting (same_behind v) ∙ quiet_one j (h.place + v) c none (omega arith) (omega arith))
        ∙ ap₂ (λ (x : ℕ) (is : List Item). absorb_waiting z.l (picked_by only z.l p.store.axes) h.now x is) there
        (drops p.out),
    sym (drops h.now.out) ∙ ap (drop (j - h.place)) h.rest ∙ drops p.out,
  )
    where
      there : h.place + (j - h.place) ≡ j
      there = omega arith

      drops : (is : List Item) → drop (j - h.place) (drop h.place is) ≡ drop j is
      drops is = lib.Seq.drop-drop (j - h.place) h.place is ∙ ap (λ (x : ℕ). drop x is) there

      drop_long : length (drop h.place p.out) ≡ length p.out - h.place
      drop_long = lib.ListN.length-drop h.place p.out

-- what a turn's call leaves
abbrev pub TurnLeft : Shape → State → Option ℕ → ℕ → List ℕ → List ℕ → Result State ExpansionLimit → List ℕ → List ℕ → Type 0
TurnLeft z st only i ws xs r ws' xs' =
    LeftS z ws xs ws' xs' × ((k : ℕ) (p : Pass) → TurnAt z st only i ws xs k p → TurnedAs z st only i xs p r ws' xs')

module _ {z : Shape} {st₀ : State} {n : ℕ} {only : Option ℕ} {ws₀ xs₀ ws xs : List ℕ} {st : State} {i : ℕ}
    (b : Scan z st₀ n only ws₀ xs₀ ws xs st i) (more : i < n) where
  module _ {k : ℕ} {p : Pass} (h : ListedAt z st₀ n only ws₀ xs₀ k p) where
    here : WaitNow z st₀ n only ws xs st i k p
    here = b.at k p h

    long : length p.out ≡ st.out
    long = out_long h.at.holds ∙ sym here.long

    few_places : n ≤ st₀.out
    few_places = rising_few n h.list.rising

    turn_at : TurnAt z st only i ws xs k here.now
    turn_at = record {
      at = here.at;
      index = omega (arith, few_places, out_few h.at, more);
      kept = b.few;
      place = here.ahead.below i (omega arith) more;
      id_in = λ e.
          omega (arith, axes_count here.at.holds, axes_count h.at.holds, ap length here.axes, h.id_in e);
      few = omega (arith, b.absorbed, more, few_places, h.few);
    }

    from_turn : (x : ℕ) → i ≤ x → x < n → place_in z.u xs i ≤ place_in z.u xs x
    from_turn x c d = go (ℕ_discrete x i)
      where
        go : Dec (x ≡ i) → place_in z.u xs i ≤ place_in z.u xs x
        go (yes e) = rw e (omega arith)
        go (no e) = let g = here.ahead.rises i x (omega arith) (omega arith) d in omega arith

    passed : (waited_all z only p ≡ absorb_waiting z.l (picked_by only z.l p.store.axes) here.now (place_in z.u xs i)
        (drop (place_in z.u xs i) p.out)) × (drop (place_in z.u xs i) here.now.out ≡ drop (place_in z.u xs i) p.out)
    passed =
        pass_to here (place_in z.u xs i) (here.later i (omega arith) more) (let g = turn_at.place in omega arith) long from_turn

    -- the item there, in memory and in the model
    item : item_at xs z.u out_row (place_in z.u xs i) ≡ get_or p.out (place_in z.u xs i) outside
    item =
        sym (out_item here.at (place_in z.u xs i) turn_at.place outside)
        ∙ sym (get_or-drop (place_in z.u xs i) here.now.out 0 outside ∙ zero_more here.now.out)
        ∙ ap (λ (is : List Item). get_or is 0 outside) passed.1
        ∙ (get_or-drop (place_in z.u xs i) p.out 0 outside ∙ zero_more p.out)
      where
        zero_more : (is : List Item) → get_or is (place_in z.u xs i + 0) outside ≡ get_or is (place_in z.u xs i) outside
        zero_more is = ap (λ (v : ℕ). get_or is v outside) (let e : place_in z.u xs i + 0 ≡ place_in z.u xs i = omega arith in e)

    -- the rest, from the state after it
    after : waited_all z only p
        ≡ absorb_waiting z.l (picked_by only z.l p.store.axes) (waited_at z only (place_in z.u xs i) xs here.now)
        (suc (place_in z.u xs i)) (drop (suc (place_in z.u xs i)) p.out)
    unfolding absorb_waiting
    after =
        passed.0
        ∙ ap (absorb_waiting z.l (picked_by only z.l p.store.axes) here.now (place_in z.u xs i))
        (drop-cons p.out (place_in z.u xs i) outside (let g = turn_at.place in omega (arith, long)))
        ∙ ap₂ (λ (x : Item) (axes : List (List ℕ)). absorb_waiting z.l (picked_by only z.l p.store.axes)
        (absorb_waiting_at z.l (picked_by only z.l axes) here.now (place_in z.u xs i) x) (suc (place_in z.u xs i))
        (drop (suc (place_in z.u xs i)) p.out)) (sym item) (sym here.axes)

  pub scan_turn : SomePass (λ m k p. ListedAt z st₀ n only ws₀ xs₀ k p) → SomePass (λ m k p. TurnAt z st only i ws xs k p)
  scan_turn s = record { absorption = off; items = s.items; pass = (here s.it).now; it = turn_at s.it }

  module _ {r : Result State ExpansionLimit} {ws' xs' : List ℕ} (call : TurnLeft z st only i ws xs r ws' xs') where
    pub scan_left : LeftS z ws₀ xs₀ ws' xs'
    scan_left = left_then b.left call.0

    step : {k : ℕ} {p : Pass} (h : ListedAt z st₀ n only ws₀ xs₀ k p) → TurnedAs z st only i xs (here h).now r ws' xs'
    step {k} h = call.1 k (here h).now (turn_at h)

    pub scan_limit : r ≡ Err expansion_limit → (k : ℕ) (p : Pass) → ListedAt z st₀ n only ws₀ xs₀ k p
        → SteppedAs z lazy 0 n st₀ (Err expansion_limit) ws' xs' (waited_all z only p)
    scan_limit e k p h =
        as_limit (omega (
          arith,
          (step h).stepped.refused e,
          ap (λ (q : Pass). q.store.peak) (after h),
          absorb_waiting_rises z.l (picked_by only z.l p.store.axes) (waited_at z only (place_in z.u xs i) xs (here h).now)
              (suc (place_in z.u xs i)) (drop (suc (place_in z.u xs i)) p.out),
        ))

    module _ {s : State} (e : r ≡ Ok s) where
      module _ {k : ℕ} {p : Pass} (h : ListedAt z st₀ n only ws₀ xs₀ k p) where
        held : HoldsPass z off s ws' xs' (waited_at z only (place_in z.u xs i) xs (here h).now)
        held = (step h).stepped.next s e

        same_out : s.out ≡ st.out
        same_out =
            sym (out_long held) ∙ step_long z.l _ (here h).now (place_in z.u xs i) (item_at xs z.u out_row (place_in z.u xs i))
            ∙ out_long (here h).at.holds

        -- outputs that have no turn
        same_item : (v : ℕ) → (v ≡ place_in z.u xs i → ⊥)
            → is_waiting (get_or (waited_at z only (place_in z.u xs i) xs (here h).now).out v outside) ≡ is_waiting
            (get_or (here h).now.out v outside)
        same_item v d =
            ap is_waiting (step_other z.l _ (here h).now (place_in z.u xs i) (item_at xs z.u out_row (place_in z.u xs i)) v d)

        -- the places that are kept
        kept_next : TurnOf z st s xs i xs' (waited_at z only (place_in z.u xs i) xs (here h).now)
            → Rising (place_in z.u xs') 0 s.waiting (suc (place_in z.u xs i))
        kept_next (inl g) = record {
          below = λ v c d. omega (
            arith,
            (step h).same v (inl (omega (arith, g.count))),
            (here h).kept.below v c (omega (arith, g.count)),
            (here h).later i (omega arith) more,
          );
          rises = λ v w c d f. omega (
            arith,
            (step h).same v (inl (omega (arith, g.count))),
            (step h).same w (inl (omega (arith, g.count))),
            (here h).kept.rises v w c d (omega (arith, g.count)),
          );
        }
        kept_next (inr g) = record {
          below = λ v c d. low v d (ℕ_discrete v st.waiting);
          rises = λ v w c d f. up v w d f (ℕ_discrete w st.waiting);
        }
          where
            low : (v : ℕ) → v < s.waiting → Dec (v ≡ st.waiting) → place_in z.u xs' v < suc (place_in z.u xs i)
            low v d (yes f) = rw f (omega (arith, g.here))
            low v d (no f) =
                omega (
                  arith,
                  (step h).same v (inl (omega (arith, g.count))),
                  (here h).kept.below v (omega arith) (omega (arith, g.count)),
                  (here h).later i (omega arith) more,
                )

            up : (v w : ℕ) → v < w → w < s.waiting → Dec (w ≡ st.waiting) → place_in z.u xs' v < place_in z.u xs' w
            up v w d f (yes x) =
                rw x (omega (
                  arith,
                  g.here,
                  (step h).same v (inl (omega arith)),
                  (here h).kept.below v (omega arith) (omega arith),
                  (here h).later i (omega arith) more,
                ))
            up v w d f (no x) =
                omega (
                  arith,
                  (step h).same v (inl (omega (arith, g.count))),
                  (step h).same w (inl (omega (arith, g.count))),
                  (here h).kept.rises v w (omega arith) d (omega (arith, g.count)),
                )

        -- what waits behind it is named behind it
        named_next : (v : ℕ) → suc (place_in z.u xs i) ≤ v → v < s.out
            → is_waiting (get_or (waited_at z only (place_in z.u xs i) xs (here h).now).out v outside) ≡ true
            → Named (place_in z.u xs') (i + 1) n v
        named_next v c d f =
            let x = (here h).named v (let g = (here h).later i (omega arith) more in omega arith) (omega (arith, same_out))
            (sym (same_item v (omega arith)) ∙ f) in
            go x (ℕ_discrete x.index i)
          where
            go : (x : Named (place_in z.u xs) i n v) → Dec (x.index ≡ i) → Named (place_in z.u xs') (i + 1) n v
            go x (yes g) = absurd (omega (arith, sym (ap (place_in z.u xs) g) ∙ x.here))
            go x (no g) = record {
              index = x.index;
              low = omega (arith, x.low);
              high = x.high;
              here = (step h).same x.index (inr (omega (arith, x.low))) ∙ x.here;
            }

        -- what waits before it is kept
        waits_next : TurnOf z st s xs i xs' (waited_at z only (place_in z.u xs i) xs (here h).now) → (v : ℕ)
            → v < suc (place_in z.u xs i)
            → is_waiting (get_or (waited_at z only (place_in z.u xs i) xs (here h).now).out v outside) ≡ true
            → Dec (v ≡ place_in z.u xs i) → Dec (v < (here h).place) → Named (place_in z.u xs') 0 s.waiting v
        waits_next (inl g) v c f (yes x) y =
            absurd (true≢false (sym f ∙ ap
            (λ (w : ℕ). is_waiting (get_or (waited_at z only (place_in z.u xs i) xs (here h).now).out w outside)) x
            ∙ g.quiet))
        waits_next (inr g) v c f (yes x) y = record {
          index = st.waiting;
          low = omega arith;
          high = omega (arith, g.count);
          here = g.here ∙ sym x;
        }
        waits_next g v c f (no x) (yes y) =
            let w = (here h).waits v y (sym (same_item v x) ∙ f) in
            record {
              index = w.index;
              low = omega arith;
              high = omega (arith, w.high, count_up g);
              here = (step h).same w.index (inl w.high) ∙ w.here;
            }
          where
            count_up : TurnOf z st s xs i xs' (waited_at z only (place_in z.u xs i) xs (here h).now) → st.waiting ≤ s.waiting
            count_up (inl o) = omega (arith, o.count)
            count_up (inr o) = omega (arith, o.count)
        waits_next g v c f (no x) (no y) =
            absurd (true≢false (sym f ∙ same_item v x
            ∙ quiet_one (here h) (place_in z.u xs i) v (let o = (turn_at h).place in omega arith) (from_turn h) (omega arith)
            (omega arith)))

        fine_next : FinePass z k (waited_at z only (place_in z.u xs i) xs (here h).now)
        fine_next =
            let inside : place_in z.u xs i < length (here h).now.out = omega (arith, (turn_at h).place, out_long (here h).at.holds) in
            record {
              well =
                  (absorb_waiting_at_well z.l (Unit {0}) _ (here h).now (place_in z.u xs i)
                  (item_at xs z.u out_row (place_in z.u xs i))
                  (here h).at.fine.well
                  (subst (WellPut (Unit {0}) (length (here h).now.store.axes))
                  (out_item (here h).at (place_in z.u xs i) (turn_at h).place outside)
                  (every_at (WellPut (Unit {0}) (length (here h).now.store.axes)) (here h).now.out outside (place_in z.u xs i)
                  (here h).at.fine.well.output inside))).well;
              inside =
                  absorb_waiting_at_by z.l (PassInside z.l z.qubits)
                  (inside_kept z.l z.qubits h.at.granted.sized.bits) k _
                  (here h).now (place_in z.u xs i) (item_at xs z.u out_row (place_in z.u xs i))
                  (subst SmallItem (out_item (here h).at (place_in z.u xs i) (turn_at h).place outside)
                  (every_at SmallItem (here h).now.out outside (place_in z.u xs i) (here h).at.fine.inside.small inside))
                  (here h).at.fine.inside;
            }

        rest_next : drop (suc (place_in z.u xs i)) (waited_at z only (place_in z.u xs i) xs (here h).now).out
            ≡ drop (suc (place_in z.u xs i)) p.out
        rest_next =
            step_rest z.l _ (here h).now (place_in z.u xs i) (item_at xs z.u out_row (place_in z.u xs i))
            ∙ sym (drop_one (here h).now.out) ∙ ap (drop 1) (passed h).1 ∙ drop_one p.out
          where
            drop_one : (is : List Item) → drop 1 (drop (place_in z.u xs i) is) ≡ drop (suc (place_in z.u xs i)) is
            drop_one is =
                lib.Seq.drop-drop 1 (place_in z.u xs i) is
                ∙ ap (λ (v : ℕ). drop v is) (let g : place_in z.u xs i + 1 ≡ suc (place_in z.u xs i) = omega arith in g)

        now_next : WaitNow z st₀ n only ws' xs' s (i + 1) k p
        now_next = record {
          now = waited_at z only (place_in z.u xs i) xs (here h).now;
          place = suc (place_in z.u xs i);
          inside = omega (arith, (turn_at h).place, same_out);
          whole = after h;
          axes = step_axes z.l _ (here h).now (place_in z.u xs i) (item_at xs z.u out_row (place_in z.u xs i)) ∙ (here h).axes;
          rest = rest_next;
          at = record {
            granted = granted_left (here h).at.granted call.0;
            holds = held;
            fine = fine_next;
            space = (here h).at.space;
          };
          long = same_out ∙ (here h).long;
          ahead = record {
            below = λ v c d. omega (arith, (step h).same v (inr (omega arith)), (here h).ahead.below v (omega arith) d, same_out);
            rises = λ v w c d f.
                omega (
                  arith,
                  (step h).same v (inr (omega arith)),
                  (step h).same w (inr (omega arith)),
                  (here h).ahead.rises v w
                      (omega arith) d f,
                );
          };
          later = λ v c d. omega (arith, (step h).same v (inr (omega arith)), (here h).ahead.rises i v (omega arith) (omega arith) d);
          kept = kept_next ((step h).turned s e);
          named = named_next;
          waits = λ v c f. waits_next ((step h).turned s e) v c f (ℕ_discrete v (place_in z.u xs i)) (dec_lt v (here h).place);
        }

      pub scan_next : SomePass (λ m k p. ListedAt z st₀ n only ws₀ xs₀ k p) → Scan z st₀ n only ws₀ xs₀ ws' xs' s (i + 1)
      scan_next some = record {
        index = omega arith;
        left = scan_left;
        few = count ((step some.it).turned s e);
        merges = omega (arith, b.merges, (step some.it).stepped.merges s e);
        absorbed = omega (arith, b.absorbed, (step some.it).stepped.absorbed s e);
        at = λ k p h. now_next h;
      }
        where
          count : {q : Pass} → TurnOf z st s xs i xs' q → s.waiting ≤ i + 1
          count (inl g) = omega (arith, g.count, b.few)
          count (inr g) = omega (arith, g.count, b.few)

-- all places have had their turn
pub scan_end : {z : Shape} {st₀ : State} {n : ℕ} {only : Option ℕ} {ws₀ xs₀ ws xs : List ℕ} {st : State} {i : ℕ}
    → Scan z st₀ n only ws₀ xs₀ ws xs st i → n ≤ i → (k : ℕ) (p : Pass) → ListedAt z st₀ n only ws₀ xs₀ k p
    → SteppedAs z lazy 0 n st₀ (Ok st) ws xs (waited_all z only p)
unfolding absorb_waiting
scan_end {z} {st₀} {n} {only} {ws₀} {xs₀} {ws} {xs} {st} {i} b e k p h =
    let t = b.at k p h in
    let long : length p.out ≡ st.out = out_long h.at.holds ∙ sym t.long in
    let is_now : waited_all z only p ≡ t.now =
    (pass_to t st.out t.inside (omega arith) long (λ x c d. absurd (omega arith))).0
    ∙ ap (λ (m : ℕ). absorb_waiting z.l (picked_by only z.l p.store.axes) t.now st.out (drop m p.out)) (sym long)
    ∙ ap (absorb_waiting z.l (picked_by only z.l p.store.axes) t.now st.out) (drop-length p.out) in
    subst (SteppedAs z lazy 0 n st₀ (Ok st) ws xs) (sym is_now)
    (as_next (with_list st.waiting (only_none (waiting_row ∷ []) z.u xs) t.at.holds (λ o. record {
      rising = record { below = λ v c d. omega (arith, t.kept.below v c d, t.inside); rises = t.kept.rises };
      all = λ j c f. go t j c (ap is_waiting (out_item t.at j c outside) ∙ f) (dec_lt j t.place);
    })) (omega (arith, b.merges)) (omega (arith, b.absorbed, b.index)))
  where
    go : (t : WaitNow z st₀ n only ws xs st i k p) (j : ℕ) → j < st.out → is_waiting (get_or t.now.out j outside) ≡ true
        → Dec (j < t.place)
        → Named (place_in z.u xs) 0 st.waiting j
    go t j c f (yes d) = t.waits j d f
    go t j c f (no d) = let x = t.named j (omega arith) c f in absurd (omega (arith, x.low, x.high))

-- ---- from the list that is there

pub record WaitAt (z : Shape) (st : State) (only : Option ℕ) (ws xs : List ℕ) (n : ℕ) (p : Pass) : Type 0 where
  pub at : PassAt z lazy n st ws xs p
  pub id_in : (id : ℕ) → only ≡ Some id → id < st.axes
  pub few : st.absorbed + st.out < 9223372036854775808

module _ {z : Shape} {st first : State} {only : Option ℕ} {ws xs : List ℕ} {n : ℕ} {p : Pass} (e : first ≡ with_waiting 0 st)
    (h : WaitAt z st only ws xs n p) where
  pub listed : ListedAt z first st.waiting only ws xs n p
  listed = subst (λ (s : State). ListedAt z s st.waiting only ws xs n p) (sym e) (record {
    at = record { granted = h.at.granted; holds = without_list 0 h.at.holds; fine = h.at.fine; space = h.at.space };
    none = refl;
    list = h.at.holds.waits refl;
    id_in = h.id_in;
    few = h.few;
  })

  pub listed_as : {r : Result State ExpansionLimit} {ws' xs' : List ℕ} {q : Pass} → SteppedAs z lazy 0 st.waiting first r ws' xs' q
      → SteppedAs z lazy 0 st.out st r ws' xs' q
  listed_as s =
      let a = ap (λ (x : State). x.merges) e in
      let b = ap (λ (x : State). x.absorbed) e in
      stepped_from 0 st.out s (omega arith) (omega (arith, rising_few st.waiting (h.at.holds.waits refl).rising))
