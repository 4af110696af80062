-- The stream's state in memory: F and the axes, the output in rows OUT, `last` in row LAST. Assumes nothing.
use Rattle.std.specs.Prelude.{◌≡◌, refl, Bool, true, false, List, ◌∷◌, ℕ, ◌+◌, ◌-◌, ◌≤◌, ◌<◌, ltb, get_or, Result, Ok, Err}
use Rattle.std.proofs.Common.{sym, subst, true≢false, arith}
use Rattle.store.specs.Row.{row}
use Rattle.model.specs.Lists.{when◌then◌else◌}
use Rattle.model.specs.declared.Absorption.{Absorption}
use Rattle.model.specs.declared.Absorption.TheVariants.{Off as off, AtOnce as at_once, Lazy as lazy}
use Rattle.model.specs.Rules.{is_lazy, Rules}
use Rattle.model.specs.Items.{Item, rotation, barrier, is_clifford}
use Rattle.model.specs.Clifford.{Touched}
use Rattle.model.specs.Stream.{Place, nowhere, at, Pass}
use Rattle.layout.specs.declared.Shape.{Shape}
use Rattle.layout.specs.Rows.{out_row, last_row, waiting_row, carried_from, f_slot, f_phase, axes_rows}
use Rattle.layout.specs.Only.{Only, only_none, only_then}
use Rattle.layout.specs.Words.{KeptFrom, kept_none, kept_then}
use Rattle.layout.specs.Shape.{Granted, granted_same}
use Rattle.items.specs.View.{tagged_at, item_at, items_in}
use Rattle.waiting.specs.Places.{place_in, Rising, Named}
use Rattle.words_wellformed.specs.PassWords.{WellPass}
use Rattle.clifford.specs.Holds.{Holds, mask_place}
use Rattle.run_wellformed.specs.PassInside.{PassInside}
use Rattle.steps.specs.declared.State.{State}
use Rattle.model.specs.declared.ExpansionLimit.{ExpansionLimit}
use Rattle.model.specs.Interface.{expansion_limit}
use Rattle.stream_states.specs.declared.StreamRules.{StreamRules}

-- F and its store
abbrev pub held_of : Pass → Touched
held_of p = record { store = p.store; held = p.held }

-- an entry of row LAST: a place that counts lies behind the segment's start
unfoldable pub place_said : ℕ → ℕ → Place
place_said start v = when ltb start v then at (v - 1) else nowhere

-- axis a's entry
abbrev pub last_in : Shape → List ℕ → ℕ → ℕ
last_in z xs a = get_or (row xs z.u last_row) a 0

-- an even rotation that is not 0 waits
abbrev pub is_waiting : Item → Bool
is_waiting (rotation r) = is_clifford r.angle
is_waiting (barrier o a s) = false

-- the n places of row WAITING rise, and every rotation that waits among the first outputs is at one of them; others may be named
pub record Waits (z : Shape) (xs : List ℕ) (n out : ℕ) : Type 0 where
  pub rising : Rising (place_in z.u xs) 0 n out
  pub all : (j : ℕ) → j < out → is_waiting (item_at xs z.u out_row j) ≡ true → Named (place_in z.u xs) 0 n j

-- memory holds p
pub record HoldsPass (z : Shape) (m : Absorption) (st : State) (ws xs : List ℕ) (p : Pass) : Type 0 where
  pub clifford : Holds z st.axes st.slots st.peak ws xs (held_of p)
  pub out_is : p.out ≡ items_in xs z.u out_row 0 st.out
  pub begun : st.start ≤ st.out
  -- no barrier in the segment
  pub segment : (i : ℕ) → st.start ≤ i → i < st.out → (tagged_at xs z.u out_row i).tag ≡ 0
  pub last_is : (a : ℕ) → a < z.u → p.last a ≡ place_said st.start (last_in z xs a)
  pub named : (a : ℕ) → a < z.u → last_in z xs a ≤ st.out
  pub merges_are : p.merges ≡ st.merges
  pub absorbed_are : p.absorbed ≡ st.absorbed
  -- lazy: every rotation that waits is named
  pub waits : m ≡ lazy → Waits z xs st.waiting st.out

-- what a state of the model is after n items
pub record FinePass (z : Shape) (n : ℕ) (p : Pass) : Type 0 where
  pub well : WellPass z.l (Unit {0}) p
  pub inside : PassInside z.l z.qubits n p

-- before a step, after n items
pub record PassAt (z : Shape) (m : Absorption) (n : ℕ) (st : State) (ws xs : List ℕ) (p : Pass) : Type 0 where
  pub granted : Granted z ws xs
  pub holds : HoldsPass z m st ws xs p
  pub fine : FinePass z n p
  pub space : n < z.u

-- some state of the model, of some way to absorb, after some items
pub record SomePass (P : Absorption → ℕ → Pass → Type 0) : Type 0 where
  pub absorption : Absorption
  pub items : ℕ
  pub pass : Pass
  pub it : P absorption items pass

-- ---- rules

pub lazy_only : (m : Absorption) → is_lazy m ≡ true → m ≡ lazy
lazy_only off e = absurd (true≢false (sym e))
lazy_only at_once e = absurd (true≢false (sym e))
lazy_only lazy e = refl

pub record RulesAs (c : StreamRules) (r : Rules) : Type 0 where
  pub lookback : c.lookback ≡ r.lookback
  pub absorption : c.absorption ≡ r.absorption
  pub lazy : c.lazy ≡ r.lazy

-- ---- what a step leaves

abbrev pub stream_rows : List ℕ
stream_rows =
    out_row ∷ (out_row + 1) ∷ (out_row + 2) ∷ last_row ∷ waiting_row ∷ carried_from ∷ f_slot ∷ f_phase ∷ axes_rows

pub record LeftS (z : Shape) (ws xs ws' xs' : List ℕ) : Type 0 where
  pub words : KeptFrom (mask_place z + z.l) ws ws'
  pub numbers : Only stream_rows z.u xs xs'

pub left_none : (z : Shape) (ws xs : List ℕ) → LeftS z ws xs ws xs
left_none z ws xs = record { words = kept_none _ ws; numbers = only_none stream_rows z.u xs }

pub left_then : {z : Shape} {ws xs ws₁ xs₁ ws₂ xs₂ : List ℕ} → LeftS z ws xs ws₁ xs₁ → LeftS z ws₁ xs₁ ws₂ xs₂ → LeftS z ws xs ws₂ xs₂
left_then a b = record { words = kept_then a.words b.words; numbers = only_then a.numbers b.numbers }

pub granted_left : {z : Shape} {ws xs ws' xs' : List ℕ} → Granted z ws xs → LeftS z ws xs ws' xs' → Granted z ws' xs'
granted_left g h = granted_same g h.words.long h.numbers.long

-- what an answer means, where p is the model's next state: it is held, with at most c merges and d absorbed rotations more,
-- or its peak is above the limit
pub record SteppedAs (z : Shape) (m : Absorption) (c d : ℕ) (st : State) (r : Result State ExpansionLimit) (ws xs : List ℕ) (p : Pass) : Type 0 where
  pub next : (s : State) → r ≡ Ok s → HoldsPass z m s ws xs p
  pub merges : (s : State) → r ≡ Ok s → s.merges ≤ st.merges + c
  pub absorbed : (s : State) → r ≡ Ok s → s.absorbed ≤ st.absorbed + d
  pub refused : r ≡ Err expansion_limit → z.limit < p.store.peak

pub as_next : {z : Shape} {m : Absorption} {c d : ℕ} {st s : State} {ws xs : List ℕ} {p : Pass} → HoldsPass z m s ws xs p
    → s.merges ≤ st.merges + c → s.absorbed ≤ st.absorbed + d → SteppedAs z m c d st (Ok s) ws xs p
as_next {z} {m} {c} {d} {st} {s} {ws} {xs} {p} h a b = record {
  next = λ k e. let f : s ≡ k = cc in subst (λ (i : State). HoldsPass z m i ws xs p) f h;
  merges = λ k e. let f : s ≡ k = cc in subst (λ (i : State). i.merges ≤ st.merges + c) f a;
  absorbed = λ k e. let f : s ≡ k = cc in subst (λ (i : State). i.absorbed ≤ st.absorbed + d) f b;
  refused = λ e. let f : ◌≡◌ {A = ℕ} 0 1 = cc in absurd (omega arith);
}

pub as_limit : {z : Shape} {m : Absorption} {c d : ℕ} {st : State} {ws xs : List ℕ} {p : Pass} → z.limit < p.store.peak
    → SteppedAs z m c d st (Err expansion_limit) ws xs p
as_limit h = record {
  next = λ k e. let f : ◌≡◌ {A = ℕ} 0 1 = cc in absurd (omega arith);
  merges = λ k e. let f : ◌≡◌ {A = ℕ} 0 1 = cc in absurd (omega arith);
  absorbed = λ k e. let f : ◌≡◌ {A = ℕ} 0 1 = cc in absurd (omega arith);
  refused = λ e. h;
}

-- counted from an earlier state
pub stepped_from : {z : Shape} {m : Absorption} {c d : ℕ} (e f : ℕ) {s st : State} {r : Result State ExpansionLimit} {ws xs : List ℕ} {p : Pass}
    → SteppedAs z m c d s r ws xs p → s.merges + c ≤ st.merges + e → s.absorbed + d ≤ st.absorbed + f
    → SteppedAs z m e f st r ws xs p
stepped_from e f k a b = record {
  next = k.next;
  merges = λ s g. omega (arith, k.merges s g);
  absorbed = λ s g. omega (arith, k.absorbed s g);
  refused = k.refused;
}
