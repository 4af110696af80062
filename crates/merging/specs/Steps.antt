-- The steps of a rotation that was carried: put out, left as a zero, absorbed, merged. Assumes nothing.
use Rattle.std.proofs.Math.Path.{◌≡◌, refl, sym, ap, subst}
use Rattle.std.proofs.Common.{◌∙◌}
use Rattle.std.specs.Prelude.{Bool, true, false, not, ◌&&◌, List, [], ◌∷◌, eqb, length, Option, Some, Result, Ok, Err}
use Prim.Native.Nat.{ℕ, suc, ◌+◌, ◌*◌, ◌≤◌, ◌<◌}
use Rattle.std.proofs.Math.Decide.{ℕ_discrete}
use native.Mathlib.Omega.{arith}
use Rattle.store.specs.Row.{Written}
use Rattle.model.specs.Lists.{all_of, any_of, member, is_even}
use Rattle.model.specs.declared.Absorption.{Absorption}
use Rattle.model.specs.declared.Absorption.TheVariants.{Off as off, Lazy as lazy}
use Rattle.model.specs.Rules.{is_lazy}
use Rattle.model.specs.Words.{word_of}
use Rattle.model.specs.Items.{is_clifford}
use Rattle.model.specs.Clifford.{Touched, absorb_word}
use Rattle.model.specs.Stream.{Pass, leave_zero, put_out_rotation, absorb}
use Rattle.theory.specs.Cases.{and_left}
use Rattle.layout.specs.declared.Shape.{Shape}
use Rattle.layout.specs.Rows.{row_count, out_row, last_row, waiting_row, carried_from}
use Rattle.layout.specs.Only.{Only, only_none, only_of, only_then, only_written}
use Rattle.layout.specs.Words.{KeptFrom}
use Rattle.layout.specs.Shape.{longest_row}
use Rattle.items.specs.declared.Tagged.{Tagged}
use Rattle.items.specs.View.{tagged_at, item_said, item_at, tagged_other}
use Rattle.items.specs.Put.{ItemPut, tagged_rotation}
use Rattle.waiting.specs.Places.{place_in, Named}
use Rattle.waiting.specs.Inserting.{InsertPre, Inserted}
use Rattle.words_wellformed.specs.HeldImages.{IsQuarters}
use Rattle.clifford.specs.Holds.{Holds, SomeTouched, f_rows, LeftF, TouchedAs, mask_place}
use Rattle.model.specs.declared.ExpansionLimit.{ExpansionLimit}
use Rattle.model.specs.Interface.{expansion_limit}
use Rattle.absorbing.specs.Absorbing.{CarriesTo, AbsorbAt}
use Rattle.steps.specs.declared.State.{State}
use Rattle.stream_states.specs.declared.StreamRules.{StreamRules}
use Rattle.steps.specs.State.{with_slots, with_out, with_waiting, with_absorbed}
use Rattle.stream_states.specs.States.{held_of, is_waiting, HoldsPass, PassAt, SomePass, lazy_only, stream_rows}
use Rattle.stream_states.specs.States.{LeftS, SteppedAs, as_next, as_limit}
use Rattle.stream_states.specs.Output.{WaitsBut, but_quiet, pass_other, with_list, angle_set, last_cleared, put_waits}
use Rattle.stream_states.specs.Output.{rotation_put, carried_row}
use Rattle.stream_states.specs.Known.{axes_count}

-- ---- a place waits

-- a test of the rules, b, and of the angle
pub test_and : {a b : Bool} (t : Bool) (k : ℕ) → b ≡ a → b ≡ t → t && is_even k ≡ a && is_even k
test_and t k e f = ap (λ (x : Bool). x && is_even k) (sym f ∙ e)

-- whether angle k is left to wait
unfoldable pub is_later : StreamRules → ℕ → Bool
is_later c k = is_lazy c.absorption && is_even k

later_lazy : (c : StreamRules) (k : ℕ) → is_later c k ≡ true → c.absorption ≡ lazy
unfolding is_later
later_lazy c k e = lazy_only c.absorption (and_left (is_lazy c.absorption) _ e)

-- what is not left to wait does not wait, in lazy mode
later_not : (c : StreamRules) (k : ℕ) → is_later c k ≡ false → c.absorption ≡ lazy → is_clifford k ≡ false
unfolding is_later
later_not c k e f = ap (λ (t : Bool). t && not (eqb k 0)) (sym (ap (λ (m : Absorption). is_lazy m && is_even k) f) ∙ e)

pub record NamePre (z : Shape) (c : StreamRules) (st : State) (j a : ℕ) (xs : List ℕ) : Type 0 where
  pub numbers_long : row_count * z.u ≤ length xs
  pub place : j < z.u
  pub axis : a < z.u
  pub small : z.u ≤ longest_row
  pub few : c.absorption ≡ lazy → st.waiting < z.u

-- the list of places that wait, and the axes that they were carried from
abbrev pub named_rows : List ℕ
named_rows = waiting_row ∷ carried_from ∷ []

-- place j of the output, by angle k, is named if it waits
pub record PlaceNamed (z : Shape) (c : StreamRules) (st : State) (j k : ℕ) (xs xs' : List ℕ) (r : State) : Type 0 where
  pub state : r ≡ with_waiting r.waiting st
  pub only : Only named_rows z.u xs xs'
  pub holds : (m : Absorption) (ws : List ℕ) (p : Pass) → m ≡ c.absorption → HoldsPass z off st ws xs p → j < st.out
      → (m ≡ lazy → WaitsBut z xs st.waiting st.out j k) → HoldsPass z m r ws xs' p

module _ {z : Shape} {c : StreamRules} {st : State} {j k : ℕ} {xs : List ℕ} {t : Bool} (said : t ≡ is_later c k) where
  -- it does not
  pub place_quiet : t ≡ false → PlaceNamed z c st j k xs xs st
  place_quiet e = record {
    state = refl;
    only = only_none named_rows z.u xs;
    holds = λ m ws p mode h b w.
        with_list st.waiting (only_none (waiting_row ∷ []) z.u xs) h
        (λ f. but_quiet (w f) (later_not c k (sym said ∙ e) (sym mode ∙ f)));
  }

pub insert_pre : {z : Shape} {c : StreamRules} {st : State} {j a : ℕ} (k : ℕ) {xs : List ℕ} {t : Bool} → t ≡ is_later c k → t ≡ true
    → NamePre z c st j a xs
    → InsertPre z.u st.waiting j xs
insert_pre {z} {c} k said e pre = record {
  numbers_long = pre.numbers_long;
  space = pre.few (later_lazy c k (sym said ∙ e));
  small = omega (arith, pre.place, pre.small);
}

-- it does
pub place_named : {z : Shape} {c : StreamRules} {st s : State} {j k n a : ℕ} {xs xs' xs'' : List ℕ} → NamePre z c st j a xs
    → Inserted z.u st.waiting j xs xs' n → Written xs' z.u carried_from j a xs'' → s ≡ with_waiting n st → PlaceNamed z c st j k xs xs'' s
unfolding all_of member any_of
place_named {z} {c} {st} {s} {j} {k} {n} {a} {xs} {xs'} {xs''} pre i wrote e = subst (PlaceNamed z c st j k xs xs'') (sym e) named
  where
    go : WaitsBut z xs st.waiting st.out j k → (x : ℕ) → x < st.out → is_waiting (item_at xs' z.u out_row x) ≡ true → Dec (x ≡ j)
        → Named (place_in z.u xs') 0 n x
    go w x d g (yes f) = rw f i.own
    go w x d g (no f) =
        i.others x (w.all x d f (sym (ap (λ (y : Tagged). is_waiting (item_said y)) (same x)) ∙ g))
      where
        same : (y : ℕ) → tagged_at xs' z.u out_row y ≡ tagged_at xs z.u out_row y
        same y = tagged_other i.only out_row (omega arith) refl y

    from_only : Only (carried_from ∷ []) z.u xs' xs''
    from_only = only_written (omega (arith, pre.numbers_long, i.only.long)) (omega arith) pre.place wrote

    named : PlaceNamed z c st j k xs xs'' (with_waiting n st)
    named = record {
      state = refl;
      only = only_then (only_of named_rows refl i.only) (only_of named_rows refl from_only);
      holds = λ m ws p mode h b w. carried_row from_only (with_list n i.only h (λ f. record {
        rising = i.rising st.out (w f).rising b;
        all = λ x d g. go (w f) x d g (ℕ_discrete x j);
      }));
    }

-- ---- put out

pub record PutPre (z : Shape) (c : StreamRules) (st : State) (id a : ℕ) (xs : List ℕ) : Type 0 where
  pub numbers_long : row_count * z.u ≤ length xs
  pub space : st.out < z.u
  pub axis : id < z.u
  pub source : a < z.u
  pub small : z.u ≤ longest_row
  pub few : c.absorption ≡ lazy → st.waiting < z.u

pub record OutPut (z : Shape) (c : StreamRules) (st : State) (id k : ℕ) (xs xs' : List ℕ) (r : State) : Type 0 where
  pub state : r ≡ with_waiting r.waiting (with_out (st.out + 1) st)
  pub left : Only stream_rows z.u xs xs'
  pub holds : (m : Absorption) (ws : List ℕ) (p : Pass) → m ≡ c.absorption → HoldsPass z m st ws xs p
      → HoldsPass z m r ws xs' (put_out_rotation p id k)

module _ {z : Shape} {c : StreamRules} {st : State} {id k a : ℕ} {xs xs₁ xs₂ : List ℕ} (pre : PutPre z c st id a xs)
    (wrote : Written xs z.u last_row id (st.out + 1) xs₁) (put : ItemPut xs₁ z.u out_row st.out (tagged_rotation id k) xs₂) where
  pub put_name : NamePre z c (with_out (st.out + 1) st) st.out a xs₂
  put_name = record {
    numbers_long = omega (arith, pre.numbers_long, wrote.long, put.only.long);
    place = pre.space;
    axis = pre.source;
    small = pre.small;
    few = pre.few;
  }

  pub out_put : {xs₃ : List ℕ} {r : State} → PlaceNamed z c (with_out (st.out + 1) st) st.out k xs₂ xs₃ r → OutPut z c st id k xs xs₃ r
  unfolding all_of member any_of
  out_put n = record {
    state = n.state;
    left =
        only_then (only_then (only_of stream_rows refl (only_written pre.numbers_long (omega arith) pre.axis wrote))
        (only_of stream_rows refl put.only)) (only_of stream_rows refl n.only);
    holds = λ m ws p mode h.
        n.holds m ws (put_out_rotation p id k) mode (rotation_put h pre.numbers_long pre.axis wrote put) (omega arith)
        (put_waits h pre.numbers_long pre.axis wrote put);
  }

-- ---- what absorbing leaves: the list of waiting places as it was

abbrev pub absorb_rows : List ℕ
absorb_rows = out_row ∷ (out_row + 1) ∷ (out_row + 2) ∷ last_row ∷ f_rows

pub record LeftAbsorbed (z : Shape) (st : State) (ws xs : List ℕ) (r : Result State ExpansionLimit) (ws' xs' : List ℕ) : Type 0 where
  pub words : KeptFrom (mask_place z + z.l) ws ws'
  pub numbers : Only absorb_rows z.u xs xs'
  pub list : (s : State) → r ≡ Ok s → s.waiting ≡ st.waiting

pub absorbed_left : {z : Shape} {st : State} {ws xs : List ℕ} {r : Result State ExpansionLimit} {ws' xs' : List ℕ} → LeftAbsorbed z st ws xs r ws' xs'
    → LeftS z ws xs ws' xs'
unfolding all_of member any_of
absorbed_left h = record { words = h.words; numbers = only_of stream_rows refl h.numbers }

-- ---- a zero is left

pub record ZeroPre (z : Shape) (j id : ℕ) (xs : List ℕ) : Type 0 where
  pub numbers_long : row_count * z.u ≤ length xs
  pub place : j < z.u
  pub axis : id < z.u
  pub small : z.u ≤ longest_row

pub record ZeroLeft (z : Shape) (j id : ℕ) (xs xs' : List ℕ) : Type 0 where
  pub left : Only absorb_rows z.u xs xs'
  pub holds : (m : Absorption) (st : State) (ws : List ℕ) (p : Pass) → HoldsPass z m st ws xs p → j < st.out
      → HoldsPass z m st ws xs' (leave_zero j id p)

pub zero_left : {z : Shape} {j id : ℕ} {xs xs₁ xs₂ : List ℕ} → ZeroPre z j id xs → Written xs z.u last_row id 0 xs₁
    → ItemPut xs₁ z.u out_row j (tagged_rotation id 0) xs₂ → ZeroLeft z j id xs xs₂
unfolding leave_zero all_of member any_of
zero_left {z} {j} {id} {xs} pre wrote put = record {
  left =
      only_then (only_of absorb_rows refl (only_written pre.numbers_long (omega arith) pre.axis wrote))
      (only_of absorb_rows refl put.only);
  holds = λ m st ws p h b.
      angle_set (last_cleared h pre.numbers_long pre.axis wrote) put b (λ e. refl);
}

-- ---- F changes, the output stays

pub record AbsorbingAt (z : Shape) (st : State) (id k : ℕ) (source : Option ℕ) (ws xs : List ℕ) (m : Absorption) (n : ℕ) (p : Pass) : Type 0 where
  pub at : PassAt z m n st ws xs p
  pub id_in : id < st.axes
  pub quarters : IsQuarters k
  pub few : st.absorbed < 9223372036854775808
  pub known : (a : ℕ) → source ≡ Some a → CarriesTo z st.axes a id (held_of p)

module _ {z : Shape} {st : State} {id k : ℕ} {source : Option ℕ} {ws xs : List ℕ} {m : Absorption} {n : ℕ} {p : Pass}
    (h : AbsorbingAt z st id k source ws xs m n p) where
  pub absorb_there : AbsorbAt z st.axes st.slots st.peak id k source ws xs (held_of p)
  absorb_there = record {
    axis = record {
      at = record { granted = h.at.granted; holds = h.at.holds.clifford };
      id_in = h.id_in;
      inside = h.at.fine.inside.axes.words id (omega (arith, axes_count h.at.holds, h.id_in));
    };
    quarters = h.quarters;
    known = h.known;
  }

pub absorb_some : {z : Shape} {st : State} {id k : ℕ} {source : Option ℕ} {ws xs : List ℕ}
    → SomePass (λ m n p. AbsorbingAt z st id k source ws xs m n p)
    → SomeTouched (λ (t : Touched). AbsorbAt z st.axes st.slots st.peak id k source ws xs t)
absorb_some s = record { state = held_of s.pass; it = absorb_there s.it }

-- what the call leaves
abbrev pub AbsorbLeft : Shape → State → ℕ → ℕ → Option ℕ → List ℕ → List ℕ → Result State ExpansionLimit → List ℕ → List ℕ → Type 0
AbsorbLeft z st id k source ws xs r ws' xs' =
    LeftF z ws xs ws' xs'
    × ((t : Touched) → AbsorbAt z st.axes st.slots st.peak id k source ws xs t
    → TouchedAs z st r ws' xs' (absorb_word z.l t (word_of t.store.axes id) k))

module _ {z : Shape} {st : State} {id k : ℕ} {source : Option ℕ} {ws xs ws' xs' : List ℕ} {r : Result State ExpansionLimit}
    (call : AbsorbLeft z st id k source ws xs r ws' xs') {m : Absorption} {n : ℕ} {p : Pass} (h : AbsorbingAt z st id k source ws xs m n p) where
  pub absorbed_limit : r ≡ Err expansion_limit → SteppedAs z m 0 1 st (Err expansion_limit) ws' xs' (absorb z.l p id k)
  unfolding absorb
  absorbed_limit e = as_limit ((call.1 (held_of p) (absorb_there h)).refused e)

  module _ {s : State} (e : r ≡ Ok s) where
    same : s ≡ with_slots s.peak s.slots st
    same = (call.1 (held_of p) (absorb_there h)).kept s e

    pub absorbed_next : SteppedAs z m 0 1 st (Ok (with_absorbed (st.absorbed + 1) s)) ws' xs' (absorb z.l p id k)
    unfolding absorb member any_of
    absorbed_next =
        subst (λ (x : State). SteppedAs z m 0 1 st (Ok (with_absorbed (st.absorbed + 1) x)) ws' xs' (absorb z.l p id k)) (sym same)
        (as_next (pass_other call.0.numbers refl refl refl h.at.holds (absorb z.l p id k)
        (subst (λ (x : State). Holds z x.axes x.slots x.peak ws' xs' (held_of (absorb z.l p id k))) same
        ((call.1 (held_of p) (absorb_there h)).held s e)) refl refl h.at.holds.merges_are
        (ap suc h.at.holds.absorbed_are ∙ (let f : suc st.absorbed ≡ st.absorbed + 1 = omega arith in f)))
        (omega arith) (omega arith))

    pub f_next : LeftAbsorbed z st ws xs (Ok (with_absorbed (st.absorbed + 1) s)) ws' xs'
    unfolding all_of member any_of
    f_next = record {
      words = call.0.words;
      numbers = only_of absorb_rows refl call.0.numbers;
      list = λ t f.
          let g : with_absorbed (st.absorbed + 1) s ≡ t = cc in
          sym (ap (λ (x : State). x.waiting) g) ∙ ap (λ (x : State). x.waiting) same;
    }

module _ {z : Shape} {st : State} {ws xs ws' xs' : List ℕ} (h : LeftF z ws xs ws' xs') where
  pub f_limit : LeftAbsorbed z st ws xs (Err expansion_limit) ws' xs'
  unfolding all_of member any_of
  f_limit = record {
    words = h.words;
    numbers = only_of absorb_rows refl h.numbers;
    list = λ t e. let f : ◌≡◌ {A = ℕ} 0 1 = cc in absurd (omega arith);
  }
