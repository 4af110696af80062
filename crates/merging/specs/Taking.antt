-- A carried rotation: absorbed at once, merged where `last` names a place that it reaches, or put out. Assumes nothing.
use Rattle.std.specs.Prelude.{◌≡◌, ◌⊎◌, Bool, true, false, not, ◌&&◌, ℕ, suc, ◌+◌, ◌-◌, ◌*◌, ◌%◌, ◌≤◌, ◌<◌, ltb, Option, Some, None, Result, Ok, Err}
use Rattle.std.specs.Bool.{then_some}
use Rattle.std.proofs.Math.Path.{refl, ap, ap₂}
use Rattle.std.proofs.Common.{sym, ◌∙◌, subst, inl, inr, arith, lt-ltb, le-ltb, ltb-true, ltb-false, eq-eqb, ne_eqb}
use Rattle.std.proofs.lemmas.Bool.{false≢true, eqb-false}
use mathlib.Core.List.{List}
use Rattle.std.proofs.Math.ListN.{length}
use Rattle.model.specs.Lists.{when◌then◌else◌, all_of, any_of, member, is_even, is_odd}
use Rattle.model.specs.declared.Absorption.{Absorption}
use Rattle.model.specs.Rules.{is_at_once, Rules}
use Rattle.model.specs.Items.{rot, Item, rotation, is_clifford, angle_of}
use Rattle.model.specs.Stream.{Place, nowhere, at, Pass, with_last, count_merge, set_angle, leave_zero, put_out_rotation, absorb, angle_at}
use Rattle.model.specs.Stream.{can_reach}
use Rattle.model.specs.Stream.{merge_at, merge_or_put_out, take_rotation}
use Rattle.theory.specs.Cases.{if_true, if_false, and_right}
use Rattle.layout.specs.declared.Shape.{Shape}
use Rattle.model.specs.declared.ExpansionLimit.{ExpansionLimit}
use Rattle.model.specs.Interface.{expansion_limit}
use Rattle.absorbing.specs.Absorbing.{CarriesTo}
use Rattle.model.specs.Clifford.{Touched}
use Rattle.layout.specs.Rows.{row_count, out_row}
use Rattle.layout.specs.Only.{only_of, only_then}
use Rattle.layout.specs.Words.{kept_none}
use Rattle.layout.specs.Shape.{longest_row}
use Rattle.axes.specs.declared.Sizes.{Sizes}
use Rattle.axes.specs.Held.{sizes_of, Stored}
use Rattle.items.specs.View.{tagged_at, said_rotation}
use Rattle.items.specs.Put.{EntryPre, ItemPut, tagged_rotation}
use Rattle.words_wellformed.specs.HeldImages.{IsQuarters}
use Rattle.steps.specs.declared.State.{State}
use Rattle.steps.specs.State.{with_merges}
use Rattle.stream_states.specs.declared.StreamRules.{StreamRules}
use Rattle.stream_states.specs.States.{held_of, last_in, HoldsPass, FinePass, PassAt, SomePass, RulesAs, stream_rows}
use Rattle.stream_states.specs.States.{LeftS, SteppedAs, as_next, as_limit, stepped_from}
use Rattle.stream_states.specs.Output.{never, without_list, angle_waits, angle_set, place_here, place_none}
use Rattle.stream_states.specs.Known.{out_long, out_few, axes_few, out_item, out_rotation, axes_stored, waiting_few}
use Rattle.merging.specs.Steps.{NamePre, PlaceNamed, PutPre, OutPut, LeftAbsorbed, ZeroPre, ZeroLeft, AbsorbingAt}
use Rattle.merging.specs.Reach.{ReachPre, reaches}

-- the source that was told is the one that is known
same_axis : {z : Shape} {n a id : ℕ} {t : Touched} (b : ℕ) → Some a ≡ Some b → CarriesTo z n a id t → CarriesTo z n b id t
same_axis {z} {n} {a} {id} {t} b e h = let f : a ≡ b = cc in subst (λ (x : ℕ). CarriesTo z n x id t) f h

-- ---- a zero is left of what was absorbed

pub record MergedAt (z : Shape) (st : State) (j id k : ℕ) (source : Option ℕ) (ws xs : List ℕ) (m : Absorption) (n : ℕ) (p : Pass) : Type 0 where
  pub at : AbsorbingAt z st id k source ws xs m n p
  pub place : j < st.out

-- what the call that absorbs leaves
abbrev pub AbsorbedLeft : Shape → State → ℕ → ℕ → Option ℕ → List ℕ → List ℕ → Result State ExpansionLimit → List ℕ → List ℕ → Type 0
AbsorbedLeft z st id k source ws xs r ws' xs' =
    LeftAbsorbed z st ws xs r ws' xs'
    × ((m : Absorption) (n : ℕ) (p : Pass) → AbsorbingAt z st id k source ws xs m n p → SteppedAs z m 0 1 st r ws' xs' (absorb z.l p id k))

pub merged_limit_left : {z : Shape} {st : State} {id k : ℕ} {source : Option ℕ} {ws xs ws₁ xs₁ : List ℕ} {r : Result State ExpansionLimit}
    → AbsorbedLeft z st id k source ws xs r ws₁ xs₁
    → r ≡ Err expansion_limit → LeftAbsorbed z st ws xs (Err expansion_limit) ws₁ xs₁
merged_limit_left call e = record { words = call.0.words; numbers = call.0.numbers; list = λ s f. call.0.list s (e ∙ f) }

module _ {z : Shape} {st : State} {j id k : ℕ} {source : Option ℕ} {ws xs ws₁ xs₁ : List ℕ} {r : Result State ExpansionLimit}
    (call : AbsorbedLeft z st id k source ws xs r ws₁ xs₁) where
  pub merged_limit : r ≡ Err expansion_limit → (m : Absorption) (n : ℕ) (p : Pass) → MergedAt z st j id k source ws xs m n p
      → SteppedAs z m 0 1 st (Err expansion_limit) ws₁ xs₁ (leave_zero j id (absorb z.l p id k))
  unfolding leave_zero set_angle with_last
  merged_limit e m n p h = as_limit ((call.1 m n p h.at).refused e)

  pub merged_zero : SomePass (λ m n p. MergedAt z st j id k source ws xs m n p) → ZeroPre z j id xs₁
  merged_zero s =
      let h = s.it.at.at in
      record {
        numbers_long = omega (arith, h.granted.numbers_long, call.0.numbers.long);
        place = omega (arith, s.it.place, out_few h);
        axis = omega (arith, s.it.at.id_in, axes_few h);
        small = h.granted.sized.u_small;
      }

  module _ {after : State} {xs₂ : List ℕ} (e : r ≡ Ok after) (left : ZeroLeft z j id xs₁ xs₂) where
    pub merged_left : LeftAbsorbed z st ws xs (Ok after) ws₁ xs₂
    merged_left = record {
      words = call.0.words;
      numbers = only_then call.0.numbers left.left;
      list = λ s f. call.0.list s (e ∙ f);
    }

    pub merged_next : (m : Absorption) (n : ℕ) (p : Pass) → MergedAt z st j id k source ws xs m n p
        → SteppedAs z m 0 1 st (Ok after) ws₁ xs₂ (leave_zero j id (absorb z.l p id k))
    merged_next m n p h =
        let s = call.1 m n p h.at in
        let held = s.next after e in
        as_next (left.holds m after ws₁ (absorb z.l p id k) held (still held)) (s.merges after e) (s.absorbed after e)
      where
        still : HoldsPass z m after ws₁ xs₁ (absorb z.l p id k) → j < after.out
        still held =
            omega (
              arith,
              h.place,
              out_long h.at.at.holds,
              out_long held,
              (let same : (absorb z.l p id k).out ≡ p.out = unfold absorb in refl in ap length same),
            )

-- ---- merging

pub record MergingAt (z : Shape) (c : StreamRules) (st : State) (j id k a : ℕ) (ws xs : List ℕ) (m : Absorption) (n : ℕ)
    (p : Pass) : Type 0 where
  pub at : PassAt z m n st ws xs p
  pub id_in : id < st.axes
  pub place : j < st.out
  pub tag : (tagged_at xs z.u out_row j).tag ≡ 0
  -- F carries axis a to it
  pub from : CarriesTo z st.axes a id (held_of p)
  pub small : k ≤ 7
  pub mode : m ≡ c.absorption
  pub few_merges : st.merges < 9223372036854775808
  pub few : st.absorbed < 9223372036854775808

-- the model's, case by case
not_clifford : (k : ℕ) → k ≡ 0 → is_clifford k ≡ false
not_clifford k e = rw e refl

is_clifford_lem : (k : ℕ) → (k ≡ 0 → ⊥) → is_clifford k ≡ is_even k
is_clifford_lem k n = ap (λ (t : Bool). is_even k && not t) (ne_eqb k 0 n) ∙ same (is_even k)
  where
    same : (t : Bool) → t && true ≡ t
    same true = refl
    same false = refl

and_off : (t : Bool) → t && false ≡ false
and_off true = refl
and_off false = refl

module _ (l : ℕ) (m : Absorption) (q : Pass) (j a s : ℕ) where
  merge_zero : s ≡ 0 → merge_at l m q j a s ≡ leave_zero j a q
  unfolding merge_at
  merge_zero e =
      if_false _ _ (ap (λ (t : Bool). is_at_once m && t) (not_clifford s e) ∙ and_off (is_at_once m)) ∙ if_true _ _ (eq-eqb s 0 e)

  merge_once : (is_at_once m && is_even s) ≡ true → (s ≡ 0 → ⊥) → merge_at l m q j a s ≡ leave_zero j a (absorb l q a s)
  unfolding merge_at
  merge_once e n = if_true _ _ (ap (λ (t : Bool). is_at_once m && t) (is_clifford_lem s n) ∙ e)

  merge_stays : (is_at_once m && is_even s) ≡ false → (s ≡ 0 → ⊥) → merge_at l m q j a s ≡ set_angle j a s q
  unfolding merge_at
  merge_stays e n = if_false _ _ (ap (λ (t : Bool). is_at_once m && t) (is_clifford_lem s n) ∙ e) ∙ if_false _ _ (ne_eqb s 0 n)

counted_holds : {z : Shape} {m : Absorption} {st : State} {ws xs : List ℕ} {p : Pass} → HoldsPass z m st ws xs p
    → HoldsPass z m (with_merges (st.merges + 1) st) ws xs (count_merge p)
unfolding count_merge
counted_holds {st = st} h = record {
  clifford = h.clifford;
  out_is = h.out_is;
  begun = h.begun;
  segment = h.segment;
  last_is = h.last_is;
  named = h.named;
  merges_are = ap suc h.merges_are ∙ (let e : suc st.merges ≡ st.merges + 1 = omega arith in e);
  absorbed_are = h.absorbed_are;
  waits = h.waits;
}

counted_fine : {z : Shape} {n : ℕ} {p : Pass} → FinePass z n p → FinePass z n (count_merge p)
unfolding count_merge
counted_fine h = record {
  well = record { stored = h.well.stored; images = h.well.images; output = h.well.output };
  inside = record { axes = h.inside.axes; held = h.inside.held; small = h.inside.small; few = h.inside.few };
}

pub even_quarters : (k : ℕ) → is_even k ≡ true → (k ≡ 0 → ⊥) → k ≤ 7 → IsQuarters k
even_quarters k e n b = record { even = even (is_odd k) refl e; some = omega arith; small = b }
  where
    even : (t : Bool) → is_odd k ≡ t → not t ≡ true → k % 2 ≡ 0
    even true f g = absurd (false≢true g)
    even false f g = let o : k % 2 ≡ 1 → ⊥ = eqb-false (k % 2) 1 f in omega arith

module _ {z : Shape} {c : StreamRules} {st : State} {j id k a : ℕ} {ws xs : List ℕ} {m : Absorption} {n : ℕ} {p : Pass}
    (h : MergingAt z c st j id k a ws xs m n p) where
  pub merging_entry : EntryPre xs z.u out_row j
  merging_entry = record {
    long = h.at.granted.numbers_long;
    rows = omega arith;
    here = omega (arith, h.place, out_few h.at);
  }

  pub merging_zero : ZeroPre z j id xs
  merging_zero = record {
    numbers_long = h.at.granted.numbers_long;
    place = omega (arith, h.place, out_few h.at);
    axis = omega (arith, h.id_in, axes_few h.at);
    small = h.at.granted.sized.u_small;
  }

  pub merging_id : id < longest_row
  merging_id = omega (arith, h.id_in, axes_few h.at, h.at.granted.sized.u_small)

  old_angle : angle_at p.out j ≡ (tagged_at xs z.u out_row j).angle
  unfolding angle_at
  old_angle = ap angle_of (out_item h.at j h.place (rotation (rot 0 0)) ∙ said_rotation (tagged_at xs z.u out_row j) h.tag)

  module _ {old : ℕ} (read : old ≡ (tagged_at xs z.u out_row j).angle) where
    sum_is : (old % 8 + k) % 8 ≡ (angle_at p.out j + k) % 8
    sum_is = omega (arith, old_angle)

    counted : HoldsPass z m (with_merges (st.merges + 1) st) ws xs (count_merge p)
    counted = counted_holds h.at.holds

    -- the result, by the sum that was worked out
    result : {r : Result State ExpansionLimit} {ws' xs' : List ℕ} → SteppedAs z m 1 1 st r ws' xs' (merge_at z.l m (count_merge p) j id ((old % 8 + k) % 8))
        → SteppedAs z m 1 1 st r ws' xs' (merge_at z.l m (count_merge p) j id ((angle_at p.out j + k) % 8))
    result {r} {ws'} {xs'} s = subst (λ (x : ℕ). SteppedAs z m 1 1 st r ws' xs' (merge_at z.l m (count_merge p) j id x)) sum_is s

    pub merge_to_zero : {xs' : List ℕ} → (old % 8 + k) % 8 ≡ 0 → ZeroLeft z j id xs xs'
        → SteppedAs z m 1 1 st (Ok (with_merges (st.merges + 1) st)) ws xs' (merge_at z.l m (count_merge p) j id ((angle_at p.out j + k) % 8))
    merge_to_zero {xs'} e left =
        result (subst (SteppedAs z m 1 1 st (Ok (with_merges (st.merges + 1) st)) ws xs') (sym (merge_zero z.l m (count_merge p) j id _ e))
        (as_next (left.holds m (with_merges (st.merges + 1) st) ws (count_merge p) counted h.place) (omega arith) (omega arith)))

    module _ (n0 : (old % 8 + k) % 8 ≡ 0 → ⊥) {t : Bool} (said : t ≡ (is_at_once c.absorption && is_even ((old % 8 + k) % 8))) where
      once : t ≡ (is_at_once m && is_even ((old % 8 + k) % 8))
      once = said ∙ ap (λ (x : Absorption). is_at_once x && is_even ((old % 8 + k) % 8)) (sym h.mode)

      pub merged_there : t ≡ true → MergedAt z (with_merges (st.merges + 1) st) j id ((old % 8 + k) % 8) (Some a) ws xs m n (count_merge p)
      merged_there e = record {
        at = record {
          at = record { granted = h.at.granted; holds = counted; fine = counted_fine h.at.fine; space = h.at.space };
          id_in = h.id_in;
          quarters = even_quarters _ (and_right (is_at_once m) _ (sym once ∙ e)) n0 (omega arith);
          few = h.few;
          known = λ b f. same_axis b f (unfold count_merge in h.from);
        };
        place = h.place;
      }

      pub merge_at_once : {r : Result State ExpansionLimit} {ws' xs' : List ℕ} → t ≡ true
          → SteppedAs z m 0 1 (with_merges (st.merges + 1) st) r ws' xs' (leave_zero j id (absorb z.l (count_merge p) id ((old % 8 + k) % 8)))
          → SteppedAs z m 1 1 st r ws' xs' (merge_at z.l m (count_merge p) j id ((angle_at p.out j + k) % 8))
      merge_at_once {r} {ws'} {xs'} e s =
          result (subst (SteppedAs z m 1 1 st r ws' xs') (sym (merge_once z.l m (count_merge p) j id _ (sym once ∙ e) n0))
          (stepped_from 1 1 s (omega arith) (omega arith)))

      module _ {xs₁ : List ℕ} (put : ItemPut xs z.u out_row j (tagged_rotation id ((old % 8 + k) % 8)) xs₁) where
        pub merge_name : NamePre z c (with_merges (st.merges + 1) st) j a xs₁
        merge_name = record {
          numbers_long = omega (arith, h.at.granted.numbers_long, put.only.long);
          place = omega (arith, h.place, out_few h.at);
          axis = omega (arith, h.from.a_in, axes_few h.at);
          small = h.at.granted.sized.u_small;
          few = λ e. waiting_few h.at (h.mode ∙ e);
        }

        pub merge_sets : {xs₂ : List ℕ} {s : State} → t ≡ false → PlaceNamed z c (with_merges (st.merges + 1) st) j ((old % 8 + k) % 8) xs₁ xs₂ s
            → SteppedAs z m 1 1 st (Ok s) ws xs₂ (merge_at z.l m (count_merge p) j id ((angle_at p.out j + k) % 8))
        merge_sets {xs₂} {s} e name =
            let a = ap (λ (x : State). x.merges) name.state in
            let b = ap (λ (x : State). x.absorbed) name.state in
            result (subst (SteppedAs z m 1 1 st (Ok s) ws xs₂) (sym (merge_stays z.l m (count_merge p) j id _ (sym once ∙ e) n0))
            (as_next (name.holds m ws (set_angle j id ((old % 8 + k) % 8) (count_merge p)) h.mode
            (angle_set (without_list st.waiting counted) put h.place (λ f. absurd (never f))) h.place
            (angle_waits counted put h.place))
            (omega arith) (omega arith)))

pub merge_left : {z : Shape} {c : StreamRules} {st s : State} {ws xs xs₁ xs₂ : List ℕ} {j id k : ℕ}
    → ItemPut xs z.u out_row j (tagged_rotation id k) xs₁
    → PlaceNamed z c st j k xs₁ xs₂ s → LeftS z ws xs ws xs₂
unfolding all_of member any_of
merge_left {ws = ws} put name = record {
  words = kept_none _ ws;
  numbers = only_then (only_of stream_rows refl put.only) (only_of stream_rows refl name.only);
}

pub zero_left_s : {z : Shape} {ws xs xs' : List ℕ} {j id : ℕ} → ZeroLeft z j id xs xs' → LeftS z ws xs ws xs'
unfolding all_of member any_of
zero_left_s {ws = ws} h = record { words = kept_none _ ws; numbers = only_of stream_rows refl h.left }

-- ---- `last`

pub record LastPre (z : Shape) (id : ℕ) (xs : List ℕ) : Type 0 where
  pub numbers_long : row_count * z.u ≤ length xs
  pub axis : id < z.u

unfoldable pub last_said : Shape → Bool → ℕ → ℕ → List ℕ → Option ℕ
last_said z merging start id xs = when merging then when ltb start (last_in z xs id) then Some (last_in z xs id - 1) else None else None

pub last_off : (z : Shape) {merging : Bool} (start id : ℕ) (xs : List ℕ) → merging ≡ false → None ≡ last_said z merging start id xs
unfolding last_said
last_off z start id xs e = sym (if_false _ _ e)

pub last_named : (z : Shape) {merging : Bool} (start id : ℕ) (xs : List ℕ) {v : ℕ} → merging ≡ true → v ≡ last_in z xs id → start < v
    → Some (v - 1) ≡ last_said z merging start id xs
unfolding last_said
last_named z start id xs e f h =
    sym (if_true _ _ e ∙ if_true _ _ (lt-ltb start (last_in z xs id) (omega arith)) ∙ ap (λ (x : ℕ). Some (x - 1)) (sym f))

pub last_none : (z : Shape) {merging : Bool} (start id : ℕ) (xs : List ℕ) {v : ℕ} → merging ≡ true → v ≡ last_in z xs id → v ≤ start
    → None ≡ last_said z merging start id xs
unfolding last_said
last_none z start id xs e f h = sym (if_true _ _ e ∙ if_false _ _ (le-ltb start (last_in z xs id) (omega arith)))

-- the place that the code's answer means
unfoldable place_named : Option ℕ → Place
place_named None = nowhere
place_named (Some j) = at j

place_is : {z : Shape} {m : Absorption} {st : State} {ws xs : List ℕ} {p : Pass} (merging : Bool) (id : ℕ) → HoldsPass z m st ws xs p
    → id < z.u
    → (when merging then p.last id else nowhere) ≡ place_named (last_said z merging st.start id xs)
unfolding last_said place_named
place_is {z} {st = st} {xs = xs} {p} merging id h b = go merging refl
  where
    inner : (t : Bool) → ltb st.start (last_in z xs id) ≡ t → p.last id ≡ place_named (when t then Some (last_in z xs id - 1) else None)
    inner true e =
        h.last_is id b ∙ place_here st.start (last_in z xs id) (ltb-true st.start (last_in z xs id) e)
        ∙ ap place_named (sym (if_true {A = Option ℕ} (Some (last_in z xs id - 1)) None refl))
    inner false e =
        h.last_is id b ∙ place_none st.start (last_in z xs id) (ltb-false st.start (last_in z xs id) e)
        ∙ ap place_named (sym (if_false {A = Option ℕ} (Some (last_in z xs id - 1)) None refl))

    go : (t : Bool) → merging ≡ t → (when t then p.last id else nowhere)
        ≡ place_named (when t then when ltb st.start (last_in z xs id) then Some (last_in z xs id - 1) else None else None)
    go true e = if_true _ _ refl ∙ inner (ltb st.start (last_in z xs id)) refl ∙ ap place_named (sym (if_true {A = Option ℕ} _ None refl))
    go false e =
        if_false _ _ refl
        ∙ ap place_named (sym (if_false {A = Option ℕ} (when ltb st.start (last_in z xs id) then Some (last_in z xs id - 1) else None) None refl))

-- a place that is named lies in the segment
named_in : (z : Shape) (merging : Bool) (start id : ℕ) (xs : List ℕ) {j : ℕ} → last_said z merging start id xs ≡ Some j
    → (start ≤ j) × (j + 1 ≡ last_in z xs id)
unfolding last_said
named_in z merging start id xs {j} e = go merging refl
  where
    none : None ≡ Some j → ⊥
    none f = let g : ◌≡◌ {A = ℕ} 0 1 = cc in omega arith

    inner : (t : Bool) → ltb start (last_in z xs id) ≡ t → (when t then Some (last_in z xs id - 1) else None) ≡ Some j
        → (start ≤ j) × (j + 1 ≡ last_in z xs id)
    inner true f g =
        let w : Some (last_in z xs id - 1) ≡ Some j = sym (if_true {A = Option ℕ} _ None refl) ∙ g in
        let v : last_in z xs id - 1 ≡ j = cc in
        (omega (arith, ltb-true start (last_in z xs id) f), omega (arith, ltb-true start (last_in z xs id) f))
    inner false f g = absurd (none (sym (if_false {A = Option ℕ} (Some (last_in z xs id - 1)) None refl) ∙ g))

    go : (t : Bool) → merging ≡ t → (start ≤ j) × (j + 1 ≡ last_in z xs id)
    go true f = inner (ltb start (last_in z xs id)) refl (sym (if_true _ _ f) ∙ e)
    go false f = absurd (none (sym (if_false _ _ f) ∙ e))

-- the place that is named, where it is reached
pub record PlacePre (z : Shape) (c : StreamRules) (st : State) (id : ℕ) (ws xs : List ℕ) : Type 0 where
  pub last : LastPre z id xs
  pub reach : (j : ℕ) → last_said z c.merge st.start id xs ≡ Some j → Stored (sizes_of z st.axes) ws xs × ReachPre (sizes_of z st.axes) st.out j id xs

pub record PlaceFor (z : Shape) (c : StreamRules) (st : State) (id : ℕ) (ws xs : List ℕ) (r : Option ℕ) : Type 0 where
  pub none : r ≡ None → (last_said z c.merge st.start id xs ≡ None)
      ⊎ ((j : ℕ) × (last_said z c.merge st.start id xs ≡ Some j) × (reaches (sizes_of z st.axes) c.lookback st.out j id ws xs ≡ false))
  pub some : (j : ℕ) → r ≡ Some j
      → (last_said z c.merge st.start id xs ≡ Some j) × (reaches (sizes_of z st.axes) c.lookback st.out j id ws xs ≡ true)

module _ {z : Shape} {c : StreamRules} {st : State} {id : ℕ} {ws xs : List ℕ} where
  pub place_nowhere : last_said z c.merge st.start id xs ≡ None → PlaceFor z c st id ws xs None
  place_nowhere e = record { none = λ f. inl e; some = λ j f. absurd (let g : ◌≡◌ {A = ℕ} 0 1 = cc in let h : ⊥ = omega arith in h) }

  -- what the scan says
  pub place_scanned : {j : ℕ} → last_said z c.merge st.start id xs ≡ Some j → {y : Sizes} → y ≡ sizes_of z st.axes → {s : Bool}
      → s ≡ reaches y c.lookback st.out j id ws xs → PlaceFor z c st id ws xs (then_some s j)
  place_scanned {j} e {y} sizes {s} scan = go s (sym (scan ∙ ap (λ (x : Sizes). reaches x c.lookback st.out j id ws xs) sizes))
    where
      go : (t : Bool) → reaches (sizes_of z st.axes) c.lookback st.out j id ws xs ≡ t → PlaceFor z c st id ws xs (then_some t j)
      go true f = record {
        none = λ g. absurd (let g : ◌≡◌ {A = ℕ} 0 1 = cc in let h : ⊥ = omega arith in h);
        some = λ i g. let h : j ≡ i = cc in (e ∙ ap Some h, ap (λ (x : ℕ). reaches (sizes_of z st.axes) c.lookback st.out x id ws xs) (sym h) ∙ f);
      }
      go false f = record {
        none = λ g. inr (j, e, f);
        some = λ i g. absurd (let g : ◌≡◌ {A = ℕ} 0 1 = cc in let h : ⊥ = omega arith in h);
      }

-- ---- taking a rotation

pub record TakingAt (z : Shape) (c : StreamRules) (st : State) (id k a : ℕ) (ws xs : List ℕ) (m : Absorption) (n : ℕ)
    (p : Pass) : Type 0 where
  pub at : PassAt z m n st ws xs p
  pub id_in : id < st.axes
  -- F carries axis a to it
  pub from : CarriesTo z st.axes a id (held_of p)
  pub some : 0 < k
  pub small : k ≤ 7
  pub mode : m ≡ c.absorption
  pub few_merges : st.merges < 9223372036854775808
  pub few : st.absorbed < 9223372036854775808

module _ {z : Shape} {c : StreamRules} {st : State} {id k a : ℕ} {ws xs : List ℕ} {m : Absorption} {n : ℕ} {p : Pass}
    (h : TakingAt z c st id k a ws xs m n p) where
  pub taking_put : PutPre z c st id a xs
  taking_put = record {
    numbers_long = h.at.granted.numbers_long;
    space = out_few h.at;
    axis = omega (arith, h.id_in, axes_few h.at);
    source = omega (arith, h.from.a_in, axes_few h.at);
    small = h.at.granted.sized.u_small;
    few = λ e. waiting_few h.at (h.mode ∙ e);
  }

  pub taking_last : LastPre z id xs
  taking_last = record { numbers_long = h.at.granted.numbers_long; axis = omega (arith, h.id_in, axes_few h.at) }

  once_said : {t : Bool} → t ≡ (is_at_once c.absorption && is_even k) → t ≡ (is_at_once m && is_even k)
  once_said said = said ∙ ap (λ (x : Absorption). is_at_once x && is_even k) (sym h.mode)

  pub taking_absorbs : {t : Bool} → t ≡ (is_at_once c.absorption && is_even k) → t ≡ true → AbsorbingAt z st id k (Some a) ws xs m n p
  taking_absorbs said e = record {
    at = h.at;
    id_in = h.id_in;
    quarters = even_quarters k (and_right (is_at_once m) _ (sym (once_said said) ∙ e)) (omega (arith, h.some)) h.small;
    few = h.few;
    known = λ b f. same_axis b f h.from;
  }

  -- a place is named
  module _ {j : ℕ} (last : last_said z c.merge st.start id xs ≡ Some j) where
    place_in : (st.start ≤ j) × (j < st.out)
    place_in =
        let w = named_in z c.merge st.start id xs last in
        (w.0, omega (arith, w.1, h.at.holds.named id taking_last.axis))

    pub taking_reach : {y : Sizes} → y ≡ sizes_of z st.axes → Stored y ws xs × ReachPre y st.out j id xs
    taking_reach e = rw e (
      axes_stored h.at,
      record {
        fits = omega (arith, out_few h.at);
        before = place_in.1;
        tags = λ i a b. h.at.holds.segment i (omega (arith, place_in.0)) b;
        places = λ i a b. (out_rotation h.at i b (h.at.holds.segment i (omega (arith, place_in.0)) b)).0;
        axis = h.id_in;
      },
    )

    pub taking_merges : MergingAt z c st j id k a ws xs m n p
    taking_merges = record {
      at = h.at;
      id_in = h.id_in;
      place = place_in.1;
      tag = h.at.holds.segment j place_in.0 place_in.1;
      from = h.from;
      small = h.small;
      mode = h.mode;
      few_merges = h.few_merges;
      few = h.few;
    }

    -- what the scan says
    reached : {y : Sizes} {t : Bool} → y ≡ sizes_of z st.axes → t ≡ reaches y c.lookback st.out j id ws xs
        → t ≡ can_reach z.l c.lookback p.store.axes p.out j id
    unfolding reaches
    reached e said =
        said ∙ ap (λ (y : Sizes). reaches y c.lookback st.out j id ws xs) e
        ∙ ap₂ (λ (axes : List (List ℕ)) (is : List Item). can_reach z.l c.lookback axes is j id)
        h.at.holds.clifford.axes.are (sym h.at.holds.out_is)

module _ {z : Shape} {c : StreamRules} {st : State} {id k a : ℕ} {ws xs : List ℕ} {m : Absorption} {n : ℕ} {p : Pass}
    (h : TakingAt z c st id k a ws xs m n p) where
  pub taking_place : PlacePre z c st id ws xs
  taking_place = record { last = taking_last h; reach = λ j last. taking_reach h last refl }

  pub taking_there : {r : Option ℕ} {j : ℕ} → PlaceFor z c st id ws xs r → r ≡ Some j → MergingAt z c st j id k a ws xs m n p
  taking_there {j = j} o e = taking_merges h (o.some j e).0

-- the model's, for the rules g
module _ {z : Shape} {c : StreamRules} {g : Rules} (rules : RulesAs c g) {st : State} {id k a : ℕ} {ws xs : List ℕ} {n : ℕ} {p : Pass}
    (h : TakingAt z c st id k a ws xs g.absorption n p) {t : Bool} (once : t ≡ (is_at_once c.absorption && is_even k)) where
  pub take_once : t ≡ true → take_rotation z.l g c.merge p id k ≡ absorb z.l p id k
  unfolding take_rotation
  take_once e = if_true _ _ (sym (once_said h once) ∙ e)

  module _ (e : t ≡ false) {v : Option ℕ} (last : last_said z c.merge st.start id xs ≡ v) where
    take_place : take_rotation z.l g c.merge p id k ≡ merge_or_put_out z.l g p id k (place_named v)
    unfolding take_rotation
    take_place =
        if_false _ _ (sym (once_said h once) ∙ e)
        ∙ ap (merge_or_put_out z.l g p id k) (place_is c.merge id h.at.holds (taking_last h).axis ∙ ap place_named last)

  module _ (e : t ≡ false) where
    take_nowhere : last_said z c.merge st.start id xs ≡ None → take_rotation z.l g c.merge p id k ≡ put_out_rotation p id k
    unfolding place_named merge_or_put_out
    take_nowhere last = take_place e last

    module _ {j : ℕ} (last : last_said z c.merge st.start id xs ≡ Some j) {s : Bool}
        (scan : reaches (sizes_of z st.axes) c.lookback st.out j id ws xs ≡ s) where
      reach_is : can_reach z.l g.lookback p.store.axes p.out j id ≡ s
      reach_is =
          sym (reached h last refl refl ∙ ap (λ (x : ℕ). can_reach z.l x p.store.axes p.out j id) rules.lookback) ∙ scan

      take_far : s ≡ false → take_rotation z.l g c.merge p id k ≡ put_out_rotation p id k
      unfolding place_named merge_or_put_out
      take_far f = take_place e last ∙ if_false _ _ (reach_is ∙ f)

      take_merges : s ≡ true
          → take_rotation z.l g c.merge p id k ≡ merge_at z.l g.absorption (count_merge p) j id ((angle_at p.out j + k) % 8)
      unfolding place_named merge_or_put_out
      take_merges f = take_place e last ∙ if_true _ _ (reach_is ∙ f)

    -- by the place that was found
    module _ {r : Option ℕ} (o : PlaceFor z c st id ws xs r) where
      pub take_out : r ≡ None → take_rotation z.l g c.merge p id k ≡ put_out_rotation p id k
      take_out f = go (o.none f)
        where
          go : (last_said z c.merge st.start id xs ≡ None)
              ⊎ ((j : ℕ) × (last_said z c.merge st.start id xs ≡ Some j)
              × (reaches (sizes_of z st.axes) c.lookback st.out j id ws xs ≡ false))
              → take_rotation z.l g c.merge p id k ≡ put_out_rotation p id k
          go (inl d) = take_nowhere d
          go (inr d) = take_far d.1 d.2 refl

      pub take_there : {j : ℕ} → r ≡ Some j → take_rotation z.l g c.merge p id k
          ≡ merge_at z.l g.absorption (count_merge p) j id ((angle_at p.out j + k) % 8)
      take_there {j} f = let w = o.some j f in take_merges w.0 w.1 refl

-- ---- the answers

pub put_next : {z : Shape} {c : StreamRules} {m : Absorption} {st r : State} {id k : ℕ} {ws xs xs' : List ℕ} {p q : Pass}
    → m ≡ c.absorption
    → HoldsPass z m st ws xs p → OutPut z c st id k xs xs' r → q ≡ put_out_rotation p id k → SteppedAs z m 1 1 st (Ok r) ws xs' q
put_next {z} {c} {m} {st} {r} {id} {k} {ws} {xs} {xs'} {p} mode h o e =
    let a = ap (λ (s : State). s.merges) o.state in
    let b = ap (λ (s : State). s.absorbed) o.state in
    subst (SteppedAs z m 1 1 st (Ok r) ws xs') (sym e) (as_next (o.holds m ws p mode h) (omega arith) (omega arith))

pub out_left : {z : Shape} {c : StreamRules} {st r : State} {id k : ℕ} {ws xs xs' : List ℕ} → OutPut z c st id k xs xs' r
    → LeftS z ws xs ws xs'
out_left {ws = ws} o = record { words = kept_none _ ws; numbers = o.left }

pub answer_is : {z : Shape} {m : Absorption} (c d : ℕ) {st : State} {r : Result State ExpansionLimit} {ws xs : List ℕ} {p q : Pass} → c ≤ 1 → d ≤ 1
    → SteppedAs z m c d st r ws xs p → q ≡ p → SteppedAs z m 1 1 st r ws xs q
answer_is {z} {m} c d {st} {r} {ws} {xs} a b s e =
    subst (SteppedAs z m 1 1 st r ws xs) (sym e) (stepped_from 1 1 s (omega arith) (omega arith))
