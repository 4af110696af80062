-- The output and `last`: what writing them makes of the state that memory holds. Assumes nothing.
use Rattle.std.specs.Prelude.{◌≡◌, true, false, ℕ, ◌+◌, ◌-◌, ◌*◌, ◌≤◌, ◌<◌, length, get_or}
use Rattle.std.proofs.Math.Path.{refl, sym, ap}
use Rattle.std.proofs.Common.{◌∙◌, true≢false, arith, lt-ltb, le-ltb, eq-eqb, ne_eqb}
use mathlib.Core.List.{List, [], ◌∷◌, ◌++◌}
use Rattle.std.proofs.Math.Decide.{ℕ_discrete}
use Rattle.std.proofs.Math.ListN.{set}
use Rattle.store.specs.Row.{row, Written}
use Rattle.model.specs.Lists.{any_of, member}
use Rattle.model.specs.declared.Absorption.{Absorption}
use Rattle.model.specs.declared.Absorption.TheVariants.{Off as off, Lazy as lazy}
use Rattle.model.specs.Items.{rot, Item, rotation, is_clifford}
use Rattle.model.specs.Clifford.{Touched}
use Rattle.model.specs.Stream.{Place, nowhere, at, Pass, with_last, set_angle, put_out, set_last, put_out_rotation}
use Rattle.theory.specs.Cases.{if_true, if_false, neither}
use Rattle.layout.specs.declared.Shape.{Shape}
use Rattle.layout.specs.Rows.{row_count, out_row, last_row, waiting_row, carried_from, f_slot, f_phase, axes_rows, written_row, entry_own, entry_other}
use Rattle.layout.specs.Only.{Only, only_written}
use Rattle.axes.specs.Held.{held_rows}
use Rattle.items.specs.declared.Tagged.{Tagged}
use Rattle.items.specs.View.{item_rows, tagged_at, item_said, item_at, items_in, said_rotation, view_length, view_other, tagged_other}
use Rattle.items.specs.Put.{ItemPut, tagged_rotation, put_set_0, put_end_0}
use Rattle.words_wellformed.specs.Conjugation.{value_eq}
use Rattle.waiting.specs.Places.{place_in, Rising, Named, rising_as, named_as}
use Rattle.layout.specs.Words.{OnlyWords}
use Rattle.clifford.specs.Holds.{image_in, Holds, f_rows, mask_place, holds_behind}
use Rattle.steps.specs.declared.State.{State}
use Rattle.steps.specs.State.{with_out, with_waiting}
use Rattle.stream_states.specs.States.{held_of, place_said, last_in, is_waiting, Waits, HoldsPass}

-- ---- F stays where other rows change

pub holds_other : {z : Shape} {n m peak : ℕ} {ws xs xs' rs : List ℕ} {t : Touched} → Only rs z.u xs xs'
    → any_of (λ r. member r rs) axes_rows ≡ false → any_of (λ r. member r rs) f_rows ≡ false
    → Holds z n m peak ws xs t → Holds z n m peak ws xs' t
unfolding image_in any_of
holds_other {z} {ws = ws} {xs} {xs'} {rs} o d e h =
    let slot = neither (member f_slot rs) _ e in
    let phase = neither (member f_phase rs) _ slot.1 in
    let same : (i : ℕ) → image_in z ws xs' i ≡ image_in z ws xs i = λ i.
    value_eq (ap (λ (r : List ℕ). get_or r i 0) (o.rows f_phase (omega arith) phase.0)) refl in
    record {
      axes = held_rows h.axes o d;
      peak_is = h.peak_is;
      peak_in = h.peak_in;
      count = h.count;
      room = h.room;
      slots = λ q b. ap (λ (r : List ℕ). get_or r q 0) (o.rows f_slot (omega arith) slot.0) ∙ h.slots q b;
      images = λ i b. same i ∙ h.images i b;
      owners = h.owners;
      mask = h.mask;
    }

-- ---- which rotations wait

-- the same outputs and the same list
waits_same : {z : Shape} {xs xs' : List ℕ} {n out : ℕ} → ((i : ℕ) → tagged_at xs' z.u out_row i ≡ tagged_at xs z.u out_row i)
    → row xs' z.u waiting_row ≡ row xs z.u waiting_row → Waits z xs n out → Waits z xs' n out
waits_same {z} {xs} {xs'} items list h = record {
  rising = rising_as (λ i a b. ap (λ (r : List ℕ). get_or r i 0) list) h.rising;
  all = λ j b e.
      named_as (λ i c d. ap (λ (r : List ℕ). get_or r i 0) list)
      (h.all j b (sym (ap (λ (x : Tagged). is_waiting (item_said x)) (items j)) ∙ e));
}

-- output j is a rotation by k, and the only one that may wait and not be named
pub record WaitsBut (z : Shape) (xs : List ℕ) (n out j k : ℕ) : Type 0 where
  pub rising : Rising (place_in z.u xs) 0 n out
  pub all : (i : ℕ) → i < out → (i ≡ j → ⊥) → is_waiting (item_at xs z.u out_row i) ≡ true → Named (place_in z.u xs) 0 n i
  pub here : is_waiting (item_at xs z.u out_row j) ≡ is_clifford k

-- it does not wait
pub but_quiet : {z : Shape} {xs : List ℕ} {n out j k : ℕ} → WaitsBut z xs n out j k → is_clifford k ≡ false → Waits z xs n out
but_quiet {z} {xs} {n} {out} {j} h c = record { rising = h.rising; all = λ i b e. go i b e (ℕ_discrete i j) }
  where
    go : (i : ℕ) → i < out → is_waiting (item_at xs z.u out_row i) ≡ true → Dec (i ≡ j) → Named (place_in z.u xs) 0 n i
    go i b e (yes f) =
        absurd (true≢false (sym e ∙ ap (λ (x : ℕ). is_waiting (item_at xs z.u out_row x)) f ∙ h.here ∙ c))
    go i b e (no f) = h.all i b f e

-- a rotation, as it is written
rotation_said : (a k : ℕ) → item_said (tagged_rotation a k) ≡ rotation (rot a k)
rotation_said a k = said_rotation (tagged_rotation a k) refl

-- it is written, within the output or behind it
waits_put : {z : Shape} {xs xs' : List ℕ} {n out out' j a k : ℕ} → out ≤ out' → ((i : ℕ) → i < out' → (i ≡ j → ⊥) → i < out)
    → ItemPut xs z.u out_row j (tagged_rotation a k) xs' → Waits z xs n out → WaitsBut z xs' n out' j k
unfolding member any_of
waits_put {z} {xs} {xs'} {j = j} {a} {k} more within put h =
    let list : row xs' z.u waiting_row ≡ row xs z.u waiting_row = put.only.rows waiting_row (omega arith) refl in
    let same : (i : ℕ) → place_in z.u xs' i ≡ place_in z.u xs i = λ i. ap (λ (r : List ℕ). get_or r i 0) list in
    let rising = rising_as (λ i c d. same i) h.rising in
    record {
      rising = record { below = λ i c d. omega (arith, rising.below i c d); rises = rising.rises };
      all = λ i b f e.
          named_as (λ x c d. same x)
          (h.all i (within i b f) (sym (ap (λ (x : Tagged). is_waiting (item_said x)) (put.others i f)) ∙ e));
      here = ap (λ (x : Tagged). is_waiting (item_said x)) put.own ∙ ap is_waiting (rotation_said a k);
    }

-- ---- places

pub place_here : (start v : ℕ) → start < v → place_said start v ≡ at (v - 1)
unfolding place_said
place_here start v h = if_true _ _ (lt-ltb start v h)

pub place_none : (start v : ℕ) → v ≤ start → place_said start v ≡ nowhere
unfolding place_said
place_none start v h = if_false _ _ (le-ltb start v h)

set_here : (a : ℕ) (pl : Place) (last : ℕ → Place) → set_last a pl last a ≡ pl
unfolding set_last
set_here a pl last = if_true _ _ (eq-eqb a a refl)

set_other : (a b : ℕ) (pl : Place) (last : ℕ → Place) → (b ≡ a → ⊥) → set_last a pl last b ≡ last b
unfolding set_last
set_other a b pl last n = if_false _ _ (ne_eqb b a n)

-- ---- rows of neither the output nor `last` nor the waiting places change

module _ {z : Shape} {m : Absorption} {st : State} {ws xs xs' rs : List ℕ} {p : Pass} (o : Only rs z.u xs xs')
    (a : any_of (λ r. member r rs) (item_rows out_row) ≡ false) (b : member last_row rs ≡ false) (c : member waiting_row rs ≡ false)
    (h : HoldsPass z m st ws xs p) where
  same_item : (i : ℕ) → tagged_at xs' z.u out_row i ≡ tagged_at xs z.u out_row i
  same_item i = tagged_other o out_row (omega arith) a i

  same_last : row xs' z.u last_row ≡ row xs z.u last_row
  same_last = o.rows last_row (omega arith) b

  -- F, the axes and the counters may be others
  pub pass_other : {ws' : List ℕ} {n peak a e s i j : ℕ} (q : Pass) → Holds z n s peak ws' xs' (held_of q) → q.out ≡ p.out → q.last ≡ p.last
      → q.merges ≡ i
      → q.absorbed ≡ j
      → HoldsPass z m (record {
        axes = n;
        peak = peak;
        id = a;
        turns = e;
        slots = s;
        out = st.out;
        start = st.start;
        waiting = st.waiting;
        merges = i;
        swaps = st.swaps;
        absorbed = j;
      }) ws' xs' q
  pass_other q f same_out same_places merges absorbed = record {
    clifford = f;
    out_is = same_out ∙ h.out_is ∙ sym (view_other o out_row (omega arith) a item_said 0 st.out);
    begun = h.begun;
    segment = λ i s e. ap (λ (x : Tagged). x.tag) (same_item i) ∙ h.segment i s e;
    last_is = λ i e.
        ap (λ (g : ℕ → Place). g i) same_places ∙ h.last_is i e ∙ ap (λ (r : List ℕ). place_said st.start (get_or r i 0)) (sym same_last);
    named = λ i e. rw same_last (h.named i e);
    merges_are = merges;
    absorbed_are = absorbed;
    waits = λ e. waits_same same_item (o.rows waiting_row (omega arith) c) (h.waits e);
  }

-- what is written behind the limit, but for the mask, is no part of it
pub pass_behind : {z : Shape} {m : Absorption} {st : State} {ws xs ws' : List ℕ} {p : Pass} → OnlyWords z.limit (mask_place z) ws ws'
    → HoldsPass z m st ws xs p → HoldsPass z m st ws' xs p
pass_behind k h = record {
  clifford = holds_behind k h.clifford;
  out_is = h.out_is;
  begun = h.begun;
  segment = h.segment;
  last_is = h.last_is;
  named = h.named;
  merges_are = h.merges_are;
  absorbed_are = h.absorbed_are;
  waits = h.waits;
}

-- a row that says nothing of the state
pub carried_row : {z : Shape} {m : Absorption} {st : State} {ws xs xs' : List ℕ} {p : Pass} → Only (carried_from ∷ []) z.u xs xs'
    → HoldsPass z m st ws xs p → HoldsPass z m st ws xs' p
unfolding member any_of
carried_row {p = p} o h =
    pass_other o refl refl refl h p (holds_other o refl refl h.clifford) refl refl h.merges_are h.absorbed_are

-- ---- the list of waiting places changes

pub never : off ≡ lazy → ⊥
never e = let f : ◌≡◌ {A = ℕ} 0 1 = cc in omega arith

-- nothing is said of it
pub without_list : {z : Shape} {m : Absorption} {st : State} {ws xs : List ℕ} {p : Pass} (n : ℕ) → HoldsPass z m st ws xs p
    → HoldsPass z off (with_waiting n st) ws xs p
without_list n h = record {
  clifford = h.clifford;
  out_is = h.out_is;
  begun = h.begun;
  segment = h.segment;
  last_is = h.last_is;
  named = h.named;
  merges_are = h.merges_are;
  absorbed_are = h.absorbed_are;
  waits = λ e. absurd (never e);
}

pub list_forgotten : {z : Shape} {m : Absorption} {st : State} {ws xs : List ℕ} {p : Pass} → HoldsPass z m st ws xs p → HoldsPass z off st ws xs p
list_forgotten {st = st} h = without_list st.waiting h

-- it is written
pub with_list : {z : Shape} {m : Absorption} {st : State} {ws xs xs' : List ℕ} {p : Pass} (n : ℕ) → Only (waiting_row ∷ []) z.u xs xs'
    → HoldsPass z off st ws xs p → (m ≡ lazy → Waits z xs' n st.out) → HoldsPass z m (with_waiting n st) ws xs' p
unfolding member any_of
with_list {z} {st = st} n o h w = record {
  clifford = holds_other o refl refl h.clifford;
  out_is = h.out_is ∙ sym (view_other o out_row (omega arith) refl item_said 0 st.out);
  begun = h.begun;
  segment = λ i s e. ap (λ (x : Tagged). x.tag) (tagged_other o out_row (omega arith) refl i) ∙ h.segment i s e;
  last_is = λ i e. h.last_is i e ∙ ap (λ (r : List ℕ). place_said st.start (get_or r i 0)) (sym (o.rows last_row (omega arith) refl));
  named = λ i e. rw (o.rows last_row (omega arith) refl) (h.named i e);
  merges_are = h.merges_are;
  absorbed_are = h.absorbed_are;
  waits = w;
}

-- ---- place j gets an angle

module _ {z : Shape} {m : Absorption} {st : State} {ws xs xs' : List ℕ} {p : Pass} {j a k : ℕ} (h : HoldsPass z m st ws xs p)
    (put : ItemPut xs z.u out_row j (tagged_rotation a k) xs') (inside : j < st.out) where
  last_row_lem : row xs' z.u last_row ≡ row xs z.u last_row
  unfolding member any_of
  last_row_lem = put.only.rows last_row (omega arith) refl

  tag_now : (i : ℕ) → Dec (i ≡ j) → (tagged_at xs z.u out_row i).tag ≡ 0 → (tagged_at xs' z.u out_row i).tag ≡ 0
  tag_now i (yes e) f = rw e (ap (λ (x : Tagged). x.tag) put.own)
  tag_now i (no n) f = ap (λ (x : Tagged). x.tag) (put.others i n) ∙ f

  pub angle_waits : m ≡ lazy → WaitsBut z xs' st.waiting st.out j k
  angle_waits e = waits_put (omega arith) (λ i b n. b) put (h.waits e)

  -- it does not wait, or nothing is said of those that do
  pub angle_set : (m ≡ lazy → is_clifford k ≡ false) → HoldsPass z m st ws xs' (set_angle j a k p)
  unfolding set_angle member any_of
  angle_set c = record {
    clifford = holds_other put.only refl refl h.clifford;
    out_is =
        ap (λ (is : List Item). set is j (rotation (rot a k))) h.out_is
        ∙ sym (put_set_0 put item_said st.out inside ∙ ap (set (items_in xs z.u out_row 0 st.out) j) (rotation_said a k));
    begun = h.begun;
    segment = λ i s e. tag_now i (ℕ_discrete i j) (h.segment i s e);
    last_is = λ i e. h.last_is i e ∙ ap (λ (r : List ℕ). place_said st.start (get_or r i 0)) (sym last_row_lem);
    named = λ i e. rw last_row_lem (h.named i e);
    merges_are = h.merges_are;
    absorbed_are = h.absorbed_are;
    waits = λ e. but_quiet (angle_waits e) (c e);
  }

-- ---- `last` is cleared for an axis

module _ {z : Shape} {m : Absorption} {st : State} {ws xs xs' : List ℕ} {p : Pass} {a : ℕ} (h : HoldsPass z m st ws xs p)
    (long : row_count * z.u ≤ length xs) (inside : a < z.u) (wrote : Written xs z.u last_row a 0 xs') where
  only_last : Only (last_row ∷ []) z.u xs xs'
  only_last = only_written long (omega arith) inside wrote

  last_set : row xs' z.u last_row ≡ set (row xs z.u last_row) a 0
  last_set = written_row long (omega arith) inside wrote

  pub last_cleared : HoldsPass z m st ws xs' (with_last (set_last a nowhere p.last) p)
  unfolding with_last member any_of
  last_cleared = record {
    clifford = holds_other only_last refl refl h.clifford;
    out_is = h.out_is ∙ sym (view_other only_last out_row (omega arith) refl item_said 0 st.out);
    begun = h.begun;
    segment = λ i s e. ap (λ (x : Tagged). x.tag) (tagged_other only_last out_row (omega arith) refl i) ∙ h.segment i s e;
    last_is = λ i e. go i e (ℕ_discrete i a);
    named = λ i e. low i e (ℕ_discrete i a);
    merges_are = h.merges_are;
    absorbed_are = h.absorbed_are;
    waits = λ e.
        waits_same (λ i. tagged_other only_last out_row (omega arith) refl i) (only_last.rows waiting_row (omega arith) refl) (h.waits e);
  }
    where
      go : (i : ℕ) → i < z.u → Dec (i ≡ a) → set_last a nowhere p.last i ≡ place_said st.start (last_in z xs' i)
      go i e (yes f) =
          rw f (set_here a nowhere p.last
          ∙ sym (ap (place_said st.start) (entry_own xs z.u last_row a 0 last_set long (omega arith) inside)
          ∙ place_none st.start 0 (omega arith)))
      go i e (no n) =
          set_other a i nowhere p.last n ∙ h.last_is i e
          ∙ ap (place_said st.start) (sym (entry_other xs z.u last_row a 0 last_set i n))

      low : (i : ℕ) → i < z.u → Dec (i ≡ a) → last_in z xs' i ≤ st.out
      low i e (yes f) = rw f (let o = entry_own xs z.u last_row a 0 last_set long (omega arith) inside in omega arith)
      low i e (no n) = let o = entry_other xs z.u last_row a 0 last_set i n in omega (arith, h.named i e)

-- ---- a rotation is put out

module _ {z : Shape} {m : Absorption} {st : State} {ws xs xs₁ xs₂ : List ℕ} {p : Pass} {a k : ℕ} (h : HoldsPass z m st ws xs p)
    (long : row_count * z.u ≤ length xs) (inside : a < z.u) (wrote : Written xs z.u last_row a (st.out + 1) xs₁)
    (put : ItemPut xs₁ z.u out_row st.out (tagged_rotation a k) xs₂) where
  only_named : Only (last_row ∷ []) z.u xs xs₁
  only_named = only_written long (omega arith) inside wrote

  named_row : row xs₂ z.u last_row ≡ set (row xs z.u last_row) a (st.out + 1)
  unfolding member any_of
  named_row = put.only.rows last_row (omega arith) refl ∙ written_row long (omega arith) inside wrote

  pub put_waits : m ≡ lazy → WaitsBut z xs₂ st.waiting (st.out + 1) st.out k
  unfolding member any_of
  put_waits e =
      waits_put (omega arith) (λ i b n. omega arith) put
      (waits_same (λ i. tagged_other only_named out_row (omega arith) refl i) (only_named.rows waiting_row (omega arith) refl) (h.waits e))

  -- nothing is said of those that wait
  pub rotation_put : HoldsPass z off (with_out (st.out + 1) st) ws xs₂ (put_out_rotation p a k)
  unfolding put_out_rotation put_out with_last member any_of
  rotation_put = record {
    clifford = holds_other put.only refl refl (holds_other only_named refl refl h.clifford);
    out_is =
        ap (λ (is : List Item). is ++ (rotation (rot a k) ∷ []))
        (h.out_is ∙ sym (view_other only_named out_row (omega arith) refl item_said 0 st.out))
        ∙ sym (put_end_0 put item_said ∙ ap (λ (i : Item). items_in xs₁ z.u out_row 0 st.out ++ (i ∷ [])) (rotation_said a k));
    begun = omega (arith, h.begun);
    segment = λ i s e. tag_now i s e (ℕ_discrete i st.out);
    last_is = λ i e. go i e (ℕ_discrete i a);
    named = λ i e. low i e (ℕ_discrete i a);
    merges_are = h.merges_are;
    absorbed_are = h.absorbed_are;
    waits = λ e. absurd (never e);
  }
    where
      tag_now : (i : ℕ) → st.start ≤ i → i < st.out + 1 → Dec (i ≡ st.out) → (tagged_at xs₂ z.u out_row i).tag ≡ 0
      tag_now i s e (yes f) = rw f (ap (λ (x : Tagged). x.tag) put.own)
      tag_now i s e (no n) =
          ap (λ (x : Tagged). x.tag) (put.others i n ∙ unfold member any_of in (tagged_other only_named out_row (omega arith) refl i))
          ∙ h.segment i s (omega arith)

      long_out : length p.out ≡ st.out
      long_out = ap length h.out_is ∙ view_length item_said xs z.u out_row 0 st.out

      back : (v : ℕ) → v + 1 - 1 ≡ v
      back v = omega arith

      go : (i : ℕ) → i < z.u → Dec (i ≡ a) → set_last a (at (length p.out)) p.last i ≡ place_said st.start (last_in z xs₂ i)
      go i e (yes f) =
          rw f (set_here a (at (length p.out)) p.last ∙ ap at long_out
          ∙ sym (ap (place_said st.start) (entry_own xs z.u last_row a (st.out + 1) named_row long (omega arith) inside)
          ∙ place_here st.start (st.out + 1) (omega (arith, h.begun)) ∙ ap at (back st.out)))
      go i e (no n) =
          set_other a i (at (length p.out)) p.last n ∙ h.last_is i e
          ∙ ap (place_said st.start) (sym (entry_other xs z.u last_row a (st.out + 1) named_row i n))

      low : (i : ℕ) → i < z.u → Dec (i ≡ a) → last_in z xs₂ i ≤ st.out + 1
      low i e (yes f) = rw f (let o = entry_own xs z.u last_row a (st.out + 1) named_row long (omega arith) inside in omega arith)
      low i e (no n) = let o = entry_other xs z.u last_row a (st.out + 1) named_row i n in omega (arith, h.named i e)
