-- One item of a stream: a rotation, behind those that wait and block it, or a barrier, behind all that wait. Assumes nothing.
use Rattle.std.specs.Prelude.{◌≡◌, Bool, true, false, ℕ, ◌+◌, ◌-◌, ◌*◌, ◌%◌, ◌≤◌, ◌<◌, length, get_or, Result, Ok, Err, Some, None}
use Rattle.std.proofs.Math.Path.{refl, sym, ap, subst}
use Rattle.std.proofs.Common.{ap₂, ◌∙◌, true≢false, lt_of_lt_of_le, arith}
use mathlib.Core.List.{List, [], ◌∷◌, ◌++◌}
use Rattle.std.proofs.Math.Decide.{ℕ_discrete}
use Rattle.store.specs.Row.{row}
use Rattle.pauli.specs.Word.{anticommutes}
use Rattle.model.specs.Lists.{all_of, any_of, member}
use Rattle.model.specs.declared.Absorption.{Absorption}
use Rattle.model.specs.declared.Absorption.TheVariants.{Off as off, AtOnce as at_once, Lazy as lazy}
use Rattle.model.specs.Rules.{is_lazy, Rules}
use Rattle.model.specs.Words.{Value, word_of, anticommute, id_of}
use Rattle.model.specs.Items.{rot, Item, rotation, barrier, with_sign}
use Rattle.model.specs.Stream.{Pass, with_last, cleared_last, put_out, axis_image, image_id, carry_axis, absorb_waiting, absorb_all_waiting}
use Rattle.model.specs.Stream.{absorb_blocking, Carried, carry_rotation, take_rotation, stream_item}
use Rattle.theory.specs.Ids.{id_word, id_in}
use Rattle.theory.specs.Peak.{carry_axis_rises, absorb_waiting_rises, take_rotation_rises}
use Rattle.theory.specs.StreamState.{axis_image_carried}
use Rattle.layout.specs.declared.Shape.{Shape}
use Rattle.layout.specs.Rows.{out_row, last_row, waiting_row}
use Rattle.layout.specs.Only.{only_of}
use Rattle.layout.specs.Words.{kept_none}
use Rattle.layout.specs.Shape.{longest_row}
use Rattle.waiting.specs.Places.{place_in, Named, named_as}
use Rattle.items.specs.declared.Tagged.{Tagged}
use Rattle.items.specs.View.{item_said, item_at, items_in, said_other}
use Rattle.items.specs.Put.{EntryPre, ItemPut, put_end_0}
use Rattle.words_wellformed.specs.PassWords.{WellPass, Continues, absorb_blocking_well}
use Rattle.run_wellformed.specs.StreamSteps.{absorb_blocking_by}
use Rattle.run_wellformed.specs.PassInside.{PassInside, inside_kept}
use Rattle.steps.specs.declared.State.{State}
use Rattle.steps.specs.State.{with_segment}
use Rattle.model.specs.declared.ExpansionLimit.{ExpansionLimit}
use Rattle.model.specs.Interface.{expansion_limit}
use Rattle.stream_states.specs.declared.StreamRules.{StreamRules}
use Rattle.stream_states.specs.States.{last_in, is_waiting, Waits, PassAt, lazy_only, LeftS}
use Rattle.stream_states.specs.States.{left_then, granted_left, stream_rows, SteppedAs, as_next, as_limit, stepped_from}
use Rattle.stream_states.specs.Output.{holds_other, place_none}
use Rattle.stream_states.specs.Known.{axes_count, out_few}
use Rattle.stream_states.specs.Carrying.{carried_same, CarryPass, CarryLeft, carry_left, carry_refused, carried_at, carried_id, carried_in}
use Rattle.stream_states.specs.Carrying.{carried_turns}
use Rattle.merging.specs.Carried.{CarryingAt}
use Rattle.merging.specs.LookedUp.{none_told}
use Rattle.stream_items.specs.Waiting.{picked_by}
use Rattle.stream_items.specs.WaitingList.{WaitAt, waited_all}

-- ---- the rotations that block axis a

pub record BlockingAt (z : Shape) (st : State) (a : ℕ) (ws xs : List ℕ) (n : ℕ) (p : Pass) : Type 0 where
  pub carry : CarryPass z st a ws xs lazy n p
  pub few : st.absorbed + st.out < 9223372036854775808

id_as : (l : ℕ) (p : Pass) (a : ℕ) → a < length p.store.axes
    → image_id l (carry_axis l p a) a ≡ id_of (carry_axis l p a).store.axes (axis_image l p a).word
unfolding image_id
id_as l p a h = ap (λ (v : Value). id_of (carry_axis l p a).store.axes v.word) (axis_image_carried l p a h)

its_word : (l : ℕ) (p : Pass) (a : ℕ) → word_of (carry_axis l p a).store.axes (id_of (carry_axis l p a).store.axes (axis_image l p a).word)
    ≡ (axis_image l p a).word
unfolding carry_axis
its_word l p a = id_word _ (axis_image l p a).word (id_in l _ p.store (axis_image l p a).word)

-- the picks, by the image's id
blocking_is : (l : ℕ) (p : Pass) (a id : ℕ) → a < length p.store.axes → id ≡ image_id l (carry_axis l p a) a
    → absorb_blocking l p a ≡ absorb_waiting l (picked_by (Some id) l (carry_axis l p a).store.axes) (carry_axis l p a) 0 (carry_axis l p a).out
unfolding absorb_blocking picked_by anticommute
blocking_is l p a id h e =
    ap (λ (w : List ℕ). absorb_waiting l (λ b. anticommutes l (word_of (carry_axis l p a).store.axes b) w) (carry_axis l p a) 0
    (carry_axis l p a).out)
    (sym (ap (word_of (carry_axis l p a).store.axes) (e ∙ id_as l p a h) ∙ its_word l p a))

module _ {z : Shape} {st : State} {a : ℕ} {ws xs : List ℕ} {r : Result State ExpansionLimit} {ws' xs' : List ℕ}
    (call : CarryLeft z st a ws xs r ws' xs') {n : ℕ} {p : Pass} (h : BlockingAt z st a ws xs n p) where
  a_stored : a < length p.store.axes
  a_stored = omega (arith, axes_count h.carry.at.holds, h.carry.a_in)

  module _ {s : State} (e : r ≡ Ok s) where
    absorbed_same : s.absorbed ≡ st.absorbed
    absorbed_same = ap (λ (x : State). x.absorbed) (carried_same h.carry call e)

    out_same : s.out ≡ st.out
    out_same = ap (λ (x : State). x.out) (carried_same h.carry call e)

    pub wait_there : WaitAt z s (Some s.id) ws' xs' n (carry_axis z.l p a)
    wait_there = record {
      at = carried_at h.carry call e;
      id_in = λ i f. let g : s.id ≡ i = cc in omega (arith, g, carried_in h.carry call e);
      few = omega (arith, absorbed_same, out_same, h.few);
    }

    pub blocked_as : {q : Result State ExpansionLimit} {ws'' xs'' : List ℕ}
        → SteppedAs z lazy 0 s.out s q ws'' xs'' (waited_all z (Some s.id) (carry_axis z.l p a))
        → SteppedAs z lazy 0 st.out st q ws'' xs'' (absorb_blocking z.l p a)
    blocked_as {q} {ws''} {xs''} t =
        let f = ap (λ (x : State). x.merges) (carried_same h.carry call e) in
        subst (SteppedAs z lazy 0 st.out st q ws'' xs'') (sym (blocking_is z.l p a s.id a_stored (carried_id h.carry call e)))
        (stepped_from 0 st.out t (omega arith) (omega (arith, absorbed_same, out_same)))

  pub blocked_limit : r ≡ Err expansion_limit → {ws'' xs'' : List ℕ}
      → SteppedAs z lazy 0 st.out st (Err expansion_limit) ws'' xs'' (absorb_blocking z.l p a)
  unfolding absorb_blocking
  blocked_limit e =
      as_limit (lt_of_lt_of_le (carry_refused h.carry call e)
      (absorb_waiting_rises z.l (λ b. anticommutes z.l (word_of (carry_axis z.l p a).store.axes b) (axis_image z.l p a).word)
      (carry_axis z.l p a) 0 (carry_axis z.l p a).out))

-- ---- the pass at axis a's turn: where even rotations wait, those that block it are absorbed

unfoldable pub unblocked : ℕ → Absorption → Pass → ℕ → Pass
unblocked l off p a = p
unblocked l at_once p a = p
unblocked l lazy p a = absorb_blocking l p a

pub record UnblockAt (z : Shape) (c : StreamRules) (st : State) (a : ℕ) (ws xs : List ℕ) (m : Absorption) (n : ℕ) (p : Pass) : Type 0 where
  pub carry : CarryPass z st a ws xs m n p
  pub mode : m ≡ c.absorption
  pub few : st.absorbed + st.out < 9223372036854775808

none_blocks : (l : ℕ) (m : Absorption) (p : Pass) (a : ℕ) → is_lazy m ≡ false → unblocked l m p a ≡ p
unfolding unblocked
none_blocks l off p a e = refl
none_blocks l at_once p a e = refl
none_blocks l lazy p a e = absurd (true≢false e)

module _ {z : Shape} {c : StreamRules} {st : State} {a : ℕ} {ws xs : List ℕ} {m : Absorption} {n : ℕ} {p : Pass}
    (h : UnblockAt z c st a ws xs m n p) where
  pub unblock_none : is_lazy c.absorption ≡ false → SteppedAs z m 0 st.out st (Ok st) ws xs (unblocked z.l m p a)
  unblock_none e =
      subst (SteppedAs z m 0 st.out st (Ok st) ws xs) (sym (none_blocks z.l m p a (ap is_lazy h.mode ∙ e)))
      (as_next h.carry.at.holds (omega arith) (omega arith))

  module _ (e : is_lazy c.absorption ≡ true) where
    waits : m ≡ lazy
    waits = h.mode ∙ lazy_only c.absorption e

    pub blocking_there : BlockingAt z st a ws xs n p
    blocking_there = record { carry = subst (λ (x : Absorption). CarryPass z st a ws xs x n p) waits h.carry; few = h.few }

    pub unblock_as : {r : Result State ExpansionLimit} {ws' xs' : List ℕ} → SteppedAs z lazy 0 st.out st r ws' xs' (absorb_blocking z.l p a)
        → SteppedAs z m 0 st.out st r ws' xs' (unblocked z.l m p a)
    unfolding unblocked
    unblock_as {r} {ws'} {xs'} s =
        subst (λ (x : Absorption). SteppedAs z x 0 st.out st r ws' xs' (unblocked z.l x p a)) (sym waits) s

-- well formed, with no fewer axes
unblocked_well : (l : ℕ) (m : Absorption) (p : Pass) (a : ℕ) → WellPass l (Unit {0}) p → Continues l (Unit {0}) p (unblocked l m p a)
unfolding unblocked
unblocked_well l off p a w = record { well = w; longer = omega arith }
unblocked_well l at_once p a w = record { well = w; longer = omega arith }
unblocked_well l lazy p a w = absorb_blocking_well l (Unit {0}) p a w

unblocked_inside : (z : Shape) (m : Absorption) (n : ℕ) (p : Pass) (a : ℕ) → z.qubits ≤ 64 * z.l → PassInside z.l z.qubits n p
    → PassInside z.l z.qubits n (unblocked z.l m p a)
unfolding unblocked
unblocked_inside z off n p a b h = h
unblocked_inside z at_once n p a b h = h
unblocked_inside z lazy n p a b h =
    absorb_blocking_by z.l (PassInside z.l z.qubits) (inside_kept z.l z.qubits b) (λ i q f. f.small) n p a h

-- ---- a rotation

pub record RotationAt (z : Shape) (c : StreamRules) (st : State) (a k : ℕ) (ws xs : List ℕ) (m : Absorption) (n : ℕ)
    (p : Pass) : Type 0 where
  pub carrying : CarryingAt z c st a k ws xs m n p
  pub few_all : st.absorbed + st.out < 9223372036854775808

-- once none blocks it, it is carried and taken
rotation_is : (l : ℕ) (g : Rules) (merging : Bool) (p : Pass) (a k : ℕ) → let q = carry_axis l (unblocked l g.absorption p a) a in
    stream_item l g merging p (rotation (rot a k)) ≡ take_rotation l g merging q (image_id l q a) (with_sign (axis_image l q a).turns k)
unfolding stream_item carry_rotation unblocked
rotation_is l g merging p a k =
    ap (λ (c : Carried). take_rotation l g merging c.pass c.axis (with_sign c.turns k)) (by_mode g.absorption)
  where
    by_mode : (m : Absorption) → carry_rotation l m p a ≡ carry_rotation l off (unblocked l m p a) a
    by_mode off = refl
    by_mode at_once = refl
    by_mode lazy = refl

module _ {z : Shape} {c : StreamRules} {st : State} {a k : ℕ} {ws xs : List ℕ} {m : Absorption} {n : ℕ} {p : Pass}
    (h : RotationAt z c st a k ws xs m n p) where
  pub unblock_there : UnblockAt z c st a ws xs m n p
  unblock_there = record { carry = h.carrying.carry; mode = h.carrying.mode; few = h.few_all }

  module _ {r : Result State ExpansionLimit} {ws₁ xs₁ : List ℕ} (left : LeftS z ws xs ws₁ xs₁)
      (call : SteppedAs z m 0 st.out st r ws₁ xs₁ (unblocked z.l m p a)) {s : State} (e : r ≡ Ok s) where
    from : Continues z.l (Unit {0}) p (unblocked z.l m p a)
    from = unblocked_well z.l m p a h.carrying.carry.at.fine.well

    pub unblocked_carrying : CarryingAt z c s a k ws₁ xs₁ m n (unblocked z.l m p a)
    unblocked_carrying = record {
      carry = record {
        at = record {
          granted = granted_left h.carrying.carry.at.granted left;
          holds = call.next s e;
          fine = record {
            well = from.well;
            inside =
                unblocked_inside z m n p a h.carrying.carry.at.granted.sized.bits h.carrying.carry.at.fine.inside;
          };
          space = h.carrying.carry.at.space;
        };
        a_in =
            omega (arith, from.longer, axes_count h.carrying.carry.at.holds, axes_count (call.next s e), h.carrying.carry.a_in);
      };
      some = h.carrying.some;
      small = h.carrying.small;
      mode = h.carrying.mode;
      few_merges = omega (arith, call.merges s e, h.carrying.few_merges);
      few = omega (arith, call.absorbed s e, h.few_all);
    }

module _ (z : Shape) (c : StreamRules) (g : Rules) (st : State) (a k : ℕ) (p : Pass) where
  abbrev before : Pass
  before = unblocked z.l g.absorption p a

  abbrev taken : Pass
  taken =
      take_rotation z.l g c.merge (carry_axis z.l before a) (image_id z.l (carry_axis z.l before a) a)
      (with_sign (axis_image z.l (carry_axis z.l before a) a).turns k)

  module _ {r : Result State ExpansionLimit} {ws₁ xs₁ : List ℕ} (first : SteppedAs z g.absorption 0 st.out st r ws₁ xs₁ before) where
    pub rotation_next : {q : Result State ExpansionLimit} {ws₂ xs₂ : List ℕ} {s : State} → r ≡ Ok s → SteppedAs z g.absorption 1 1 s q ws₂ xs₂ taken
        → SteppedAs z g.absorption 1 (st.out + 1) st q ws₂ xs₂ (stream_item z.l g c.merge p (rotation (rot a k)))
    rotation_next {q} {ws₂} {xs₂} {s} e second =
        subst (SteppedAs z g.absorption 1 (st.out + 1) st q ws₂ xs₂) (sym (rotation_is z.l g c.merge p a k))
        (stepped_from 1 _ second (omega (arith, first.merges s e)) (omega (arith, first.absorbed s e)))

    pub rotation_limit : r ≡ Err expansion_limit
        → SteppedAs z g.absorption 1 (st.out + 1) st (Err expansion_limit) ws₁ xs₁ (stream_item z.l g c.merge p (rotation (rot a k)))
    rotation_limit e =
        subst (SteppedAs z g.absorption 1 (st.out + 1) st (Err expansion_limit) ws₁ xs₁) (sym (rotation_is z.l g c.merge p a k))
        (as_limit (omega (
          arith,
          first.refused e,
          carry_axis_rises z.l before a,
          take_rotation_rises z.l g c.merge (carry_axis z.l before a) (image_id z.l (carry_axis z.l before a) a)
              (with_sign (axis_image z.l (carry_axis z.l before a) a).turns k),
        )))

-- ---- all that wait

pub record AllAt (z : Shape) (c : StreamRules) (st : State) (ws xs : List ℕ) (m : Absorption) (n : ℕ) (p : Pass) : Type 0 where
  pub at : PassAt z m n st ws xs p
  pub mode : m ≡ c.absorption
  pub few : st.absorbed + st.out < 9223372036854775808

none_waiting : (l : ℕ) (m : Absorption) (p : Pass) → is_lazy m ≡ false → absorb_all_waiting l m p ≡ p
unfolding absorb_all_waiting
none_waiting l off p e = refl
none_waiting l at_once p e = refl
none_waiting l lazy p e = absurd (true≢false e)

module _ {z : Shape} {c : StreamRules} {st : State} {ws xs : List ℕ} {m : Absorption} {n : ℕ} {p : Pass}
    (h : AllAt z c st ws xs m n p) where
  pub none_waits : is_lazy c.absorption ≡ false → SteppedAs z m 0 st.out st (Ok st) ws xs (absorb_all_waiting z.l m p)
  none_waits e =
      subst (SteppedAs z m 0 st.out st (Ok st) ws xs) (sym (none_waiting z.l m p (ap is_lazy h.mode ∙ e)))
      (as_next h.at.holds (omega arith) (omega arith))

  module _ (e : is_lazy c.absorption ≡ true) where
    is_lazy_lem : m ≡ lazy
    is_lazy_lem = h.mode ∙ lazy_only c.absorption e

    pub all_there : WaitAt z st None ws xs n p
    all_there = record {
      at = subst (λ (x : Absorption). PassAt z x n st ws xs p) is_lazy_lem h.at;
      id_in = λ i g. none_told i g;
      few = h.few;
    }

    pub all_as : {r : Result State ExpansionLimit} {ws' xs' : List ℕ} → SteppedAs z lazy 0 st.out st r ws' xs' (waited_all z None p)
        → SteppedAs z m 0 st.out st r ws' xs' (absorb_all_waiting z.l m p)
    unfolding absorb_all_waiting picked_by
    all_as {r} {ws'} {xs'} s =
        subst (λ (x : Absorption). SteppedAs z x 0 st.out st r ws' xs' (absorb_all_waiting z.l x p)) (sym is_lazy_lem) s

-- ---- a barrier, once none waits

-- as it is put out
abbrev pub moved_barrier : Tagged → ℕ → ℕ → Tagged
moved_barrier x id turns = record { tag = x.tag; axis = id; angle = (turns + x.angle) % 4 }

-- the model's state behind it
unfoldable pub barrier_put : ℕ → Pass → ℕ → ℕ → ℕ → Pass
barrier_put l p o a s =
    put_out (barrier o (image_id l (carry_axis l p a) a) (((axis_image l (carry_axis l p a) a).turns + s) % 4))
    (with_last cleared_last (carry_axis l p a))

pub record BarrierAt (z : Shape) (st : State) (x : Tagged) (ws xs : List ℕ) (m : Absorption) (n : ℕ) (p : Pass) : Type 0 where
  pub carry : CarryPass z st x.axis ws xs m n p
  pub tag : x.tag ≡ 0 → ⊥
  pub sign : x.angle < 4

module _ {z : Shape} {st : State} {x : Tagged} {ws xs : List ℕ} {r : Result State ExpansionLimit} {ws' xs' : List ℕ}
    (call : CarryLeft z st x.axis ws xs r ws' xs') {m : Absorption} {n : ℕ} {p : Pass} (h : BarrierAt z st x ws xs m n p) where
  pub barrier_limit : r ≡ Err expansion_limit → {ws'' xs'' : List ℕ}
      → SteppedAs z m 0 0 st (Err expansion_limit) ws'' xs'' (barrier_put z.l p (x.tag - 1) x.axis x.angle)
  unfolding barrier_put put_out with_last
  barrier_limit e = as_limit (carry_refused h.carry call e)

  module _ {to : State} (e : r ≡ Ok to) where
    pub barrier_entry : EntryPre xs' z.u out_row to.out
    barrier_entry =
        record {
          long = omega (arith, h.carry.at.granted.numbers_long, call.0.numbers.long);
          rows = omega arith;
          here = out_few (carried_at h.carry call e);
        }

    pub barrier_small : (to.id < longest_row) × (to.out < longest_row)
    barrier_small =
        let g = h.carry.at.granted.sized in
        let k = carried_at h.carry call e in (
          omega (arith, carried_in h.carry call e, g.words_row to.axes (omega (arith, k.holds.clifford.room)), g.u_small),
          omega (arith, out_few (carried_at h.carry call e), g.u_small),
        )

    module _ {xs'' : List ℕ} (put : ItemPut xs' z.u out_row to.out (moved_barrier x to.id to.turns) xs'') where
      pub barrier_left : LeftS z ws xs ws' xs''
      unfolding all_of member any_of
      barrier_left =
          left_then (carry_left h.carry call) (record { words = kept_none _ ws'; numbers = only_of stream_rows refl put.only })

      its_item : item_said (moved_barrier x to.id to.turns)
          ≡ barrier (x.tag - 1) (image_id z.l (carry_axis z.l p x.axis) x.axis)
          (((axis_image z.l (carry_axis z.l p x.axis) x.axis).turns + x.angle) % 4)
      its_item =
          said_other (moved_barrier x to.id to.turns) h.tag
          ∙ ap₂ (λ (i t : ℕ). barrier (x.tag - 1) i ((t + x.angle) % 4)) (carried_id h.carry call e) (carried_turns h.carry call e)

      pub barrier_next : SteppedAs z m 0 0 st (Ok (with_segment (to.out + 1) to)) ws' xs''
          (barrier_put z.l p (x.tag - 1) x.axis x.angle)
      unfolding barrier_put put_out with_last member any_of
      barrier_next =
          let k = (carried_at h.carry call e).holds in
          let merges = ap (λ (x : State). x.merges) (carried_same h.carry call e) in
          let absorbed = ap (λ (x : State). x.absorbed) (carried_same h.carry call e) in
          as_next (record {
            clifford = holds_other put.only refl refl k.clifford;
            out_is =
                ap (λ (is : List Item). is ++ (barrier (x.tag - 1) (image_id z.l (carry_axis z.l p x.axis) x.axis)
                (((axis_image z.l (carry_axis z.l p x.axis) x.axis).turns + x.angle) % 4) ∷ [])) k.out_is
                ∙ sym (put_end_0 put item_said ∙ ap (λ (i : Item). items_in xs' z.u out_row 0 to.out ++ (i ∷ [])) its_item);
            begun = omega arith;
            segment = λ i a b. absurd (omega arith);
            last_is = λ i b. sym (place_none (to.out + 1) (last_in z xs'' i) (omega (arith, low i b)));
            named = λ i b. omega (arith, low i b);
            merges_are = k.merges_are;
            absorbed_are = k.absorbed_are;
            waits = λ e. listed (k.waits e);
          }) (omega arith) (omega arith)
        where
          low : (i : ℕ) → i < z.u → last_in z xs'' i ≤ to.out
          low i b = rw (put.only.rows last_row (omega arith) refl) ((carried_at h.carry call e).holds.named i b)

          -- the barrier does not wait
          listed : Waits z xs' to.waiting to.out → Waits z xs'' to.waiting (to.out + 1)
          listed w =
              let list : row xs'' z.u waiting_row ≡ row xs' z.u waiting_row = put.only.rows waiting_row (omega arith) refl in
              let same : (i : ℕ) → place_in z.u xs'' i ≡ place_in z.u xs' i = λ i. ap (λ (r : List ℕ). get_or r i 0) list in
              record {
                rising = record {
                  below = λ i a b. omega (arith, same i, w.rising.below i a b);
                  rises = λ i j a b d. omega (arith, same i, same j, w.rising.rises i j a b d);
                };
                all = λ j b f. go w same j b f (ℕ_discrete j to.out);
              }
            where
              go : Waits z xs' to.waiting to.out → ((i : ℕ) → place_in z.u xs'' i ≡ place_in z.u xs' i) → (j : ℕ) → j < to.out + 1
                  → is_waiting (item_at xs'' z.u out_row j) ≡ true → Dec (j ≡ to.out) → Named (place_in z.u xs'') 0 to.waiting j
              go w same j b f (yes d) =
                  absurd (true≢false (sym f ∙ ap (λ (i : ℕ). is_waiting (item_at xs'' z.u out_row i)) d
                  ∙ ap (λ (y : Tagged). is_waiting (item_said y)) put.own ∙ ap is_waiting its_item))
              go w same j b f (no d) =
                  named_as (λ i a c. same i)
                  (w.all j (omega arith) (sym (ap (λ (y : Tagged). is_waiting (item_said y)) (put.others j d)) ∙ f))
