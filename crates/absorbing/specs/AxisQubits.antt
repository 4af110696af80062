-- The qubits of an axis are touched, number after number, as the model's `touchAll` has it. Assumes nothing.
use Rattle.std.specs.Prelude.{◌≡◌, refl, ℕ, ◌+◌, ◌*◌, ◌≤◌, ◌<◌, suc, ◌-◌, ◌^◌, length, get_or, Result, Ok, Err}
use Rattle.std.proofs.Common.{subst, sym, ◌∙◌, arith}
use Rattle.std.proofs.Math.Path.{ap}
use mathlib.Core.List.{List, [], ◌∷◌, ◌++◌}
use Rattle.std.specs.Int.Bits.{bit_or}
use Rattle.pauli.specs.Word.{x_word, z_word}
use Rattle.model.specs.Words.{word_of, set_bits, support}
use Rattle.model.specs.Clifford.{Touched, touch, touch_all}
use Rattle.theory.specs.Every.{Every}
use Rattle.theory.specs.Peak.{touch_all_rises}
use Rattle.layout.specs.declared.Shape.{Shape}
use Rattle.layout.specs.Words.{axis_place}
use Rattle.steps.specs.declared.State.{State}
use Rattle.model.specs.declared.ExpansionLimit.{ExpansionLimit}
use Rattle.model.specs.Interface.{expansion_limit}
use Rattle.steps.specs.State.{with_slots}
use Rattle.words_wellformed.specs.Inside.{inside_support}
use Rattle.clifford_states.specs.SetBits.{qubits_at, qubits_from, support_from, qubits_end, qubits_next}
use Rattle.clifford_states.specs.SetBits.{touch_all_append, touch_all_axes, support_number}
use Rattle.clifford.specs.Holds.{Holds, SomeTouched, LeftF, TouchedAs, as_next, as_limit, HeldAt, left_none, left_then, granted_left}
use Rattle.clifford.specs.Holds.{axis_in, axis_number, AxisAt}
use Rattle.clifford.specs.Touching.{TouchAt}

-- ---- the qubits of a number's set bits

pub record BitsAt (z : Shape) (n m p j w : ℕ) (ws xs : List ℕ) (t : Touched) : Type 0 where
  pub at : HeldAt z n m p ws xs t
  pub number : j < z.l
  pub qubits : Every (λ q. q < z.qubits) (set_bits 64 (64 * j) w)

-- the number is small
pub number_small : {z : Shape} {n m p j w : ℕ} {ws xs : List ℕ} {t : Touched} → BitsAt z n m p j w ws xs t → j < 64
number_small h = omega (arith, h.number, h.at.granted.sized.few)

-- qubits qs are still to be touched
pub record BitsNow (z : Shape) (j w : ℕ) (ws xs : List ℕ) (st : State) (qs : List ℕ) (t : Touched) : Type 0 where
  pub now : Touched
  pub whole : touch_all z.l t (set_bits 64 (64 * j) w) ≡ touch_all z.l now qs
  pub at : HeldAt z st.axes st.slots st.peak ws xs now
  pub qubits : Every (λ q. q < z.qubits) qs

pub record BitsLoop (z : Shape) (first : State) (j w : ℕ) (ws₀ xs₀ ws xs : List ℕ) (st : State) (qs : List ℕ) : Type 0 where
  pub left : LeftF z ws₀ xs₀ ws xs
  pub same : st ≡ with_slots st.peak st.slots first
  pub at : (t : Touched) → BitsAt z first.axes first.slots first.peak j w ws₀ xs₀ t → BitsNow z j w ws xs st qs t

pub bits_first : {z : Shape} {st : State} {j w : ℕ} {ws xs qs : List ℕ} → set_bits 64 (64 * j) w ≡ qs → BitsLoop z st j w ws xs ws xs st qs
bits_first {z} e = record {
  left = left_none _ _ _;
  same = refl;
  at = λ t h. record {
    now = t;
    whole = ap (touch_all z.l t) e;
    at = h.at;
    qubits = subst (Every (λ q. q < z.qubits)) e h.qubits;
  };
}

-- what a turn's call leaves, where it touches qubit q
abbrev pub TouchLeft : Shape → State → ℕ → List ℕ → List ℕ → Result State ExpansionLimit → List ℕ → List ℕ → Type 0
TouchLeft z st q ws xs r ws' xs' =
    LeftF z ws xs ws' xs'
    × ((t : Touched) → TouchAt z st.axes st.slots st.peak q ws xs t → TouchedAs z st r ws' xs' (touch z.l t q))

module _ {z : Shape} {first st : State} {j w : ℕ} {ws₀ xs₀ ws xs qs : List ℕ} {q : ℕ} {rest : List ℕ}
    (b : BitsLoop z first j w ws₀ xs₀ ws xs st qs) (lowest : qs ≡ q ∷ rest) where
  split : {t : Touched} → BitsNow z j w ws xs st qs t → (q < z.qubits) × Every (λ i. i < z.qubits) rest
  split k = subst (Every (λ i. i < z.qubits)) lowest k.qubits

  pub bits_turn : SomeTouched (λ (t : Touched). BitsAt z first.axes first.slots first.peak j w ws₀ xs₀ t)
      → SomeTouched (λ (t : Touched). TouchAt z st.axes st.slots st.peak q ws xs t)
  bits_turn s = let k = b.at s.state s.it in record { state = k.now; it = record { at = k.at; qubit = (split k).0 } }

  -- the rest, from the state after q
  after : {t : Touched} (k : BitsNow z j w ws xs st qs t)
      → touch_all z.l t (set_bits 64 (64 * j) w) ≡ touch_all z.l (touch z.l k.now q) rest
  unfolding touch_all
  after k = k.whole ∙ ap (touch_all z.l k.now) lowest

  module _ {r : Result State ExpansionLimit} {ws' xs' : List ℕ} (call : TouchLeft z st q ws xs r ws' xs') where
    pub bits_left : LeftF z ws₀ xs₀ ws' xs'
    bits_left = left_then b.left call.0

    said : {t : Touched} (k : BitsNow z j w ws xs st qs t) → TouchedAs z st r ws' xs' (touch z.l k.now q)
    said k = call.1 k.now (record { at = k.at; qubit = (split k).0 })

    pub bits_next : SomeTouched (λ (t : Touched). BitsAt z first.axes first.slots first.peak j w ws₀ xs₀ t) → (s : State) → r ≡ Ok s
        → BitsLoop z first j w ws₀ xs₀ ws' xs' s rest
    bits_next some_state s e = record {
      left = bits_left;
      same = (said (b.at some_state.state some_state.it)).kept s e ∙ ap (with_slots s.peak s.slots) b.same;
      at = λ t h.
          let k = b.at t h in
          record {
            now = touch z.l k.now q;
            whole = after k;
            at = record { granted = granted_left k.at.granted call.0; holds = (said k).held s e };
            qubits = (split k).1;
          };
    }

    pub bits_limit : r ≡ Err expansion_limit → (t : Touched) → BitsAt z first.axes first.slots first.peak j w ws₀ xs₀ t
        → TouchedAs z first (Err expansion_limit) ws' xs' (touch_all z.l t (set_bits 64 (64 * j) w))
    bits_limit e t h =
        let k = b.at t h in
        let p = (said k).refused e in
        as_limit (omega (arith, ap (λ (x : Touched). x.store.peak) (after k), touch_all_rises z.l (touch z.l k.now q) rest))

-- all are touched
pub bits_end : {z : Shape} {first st : State} {j w : ℕ} {ws₀ xs₀ ws xs qs : List ℕ}
    → BitsLoop z first j w ws₀ xs₀ ws xs st qs → qs ≡ [] → (t : Touched)
    → BitsAt z first.axes first.slots first.peak j w ws₀ xs₀ t → TouchedAs z first (Ok st) ws xs (touch_all z.l t (set_bits 64 (64 * j) w))
unfolding touch_all
bits_end {z} {st = st} {ws = ws} {xs} b e t h =
    let k = b.at t h in
    as_next b.same (subst (Holds z st.axes st.slots st.peak ws xs) (sym (k.whole ∙ ap (touch_all z.l k.now) e)) k.at.holds)

-- ---- the qubits of an axis

pub axis_small : {z : Shape} {n m p id : ℕ} {ws xs : List ℕ} {t : Touched} → AxisAt z n m p id ws xs t → axis_place z.l id + 2 * z.l < 2 ^ 64
axis_small h = omega (arith, axis_in h.at.holds h.id_in, h.at.granted.sized.limit)

-- the numbers from the j-th on are still to be gone through
pub record AxisNow (z : Shape) (id : ℕ) (ws xs : List ℕ) (st : State) (j : ℕ) (t : Touched) : Type 0 where
  pub now : Touched
  pub whole : touch_all z.l t (support z.l (word_of t.store.axes id))
      ≡ touch_all z.l now (qubits_from z.l (word_of t.store.axes id) j (z.l - j))
  pub axes : now.store.axes ≡ t.store.axes
  pub at : HeldAt z st.axes st.slots st.peak ws xs now

pub record NumbersLoop (z : Shape) (first : State) (id : ℕ) (ws₀ xs₀ ws xs : List ℕ) (st : State) (j : ℕ) : Type 0 where
  pub index : j ≤ z.l
  pub left : LeftF z ws₀ xs₀ ws xs
  pub same : st ≡ with_slots st.peak st.slots first
  pub at : (t : Touched) → AxisAt z first.axes first.slots first.peak id ws₀ xs₀ t → AxisNow z id ws xs st j t

-- as many axes as before
id_now : {z : Shape} {first st : State} {id : ℕ} {ws₀ xs₀ ws xs : List ℕ} {j : ℕ} → NumbersLoop z first id ws₀ xs₀ ws xs st j
    → id < first.axes → id < st.axes
id_now b h = omega (arith, h, ap (λ (s : State). s.axes) b.same)

-- the axis's word is there at every turn
pub numbers_word : {z : Shape} {first st : State} {id : ℕ} {ws₀ xs₀ ws xs : List ℕ} {j a : ℕ} → NumbersLoop z first id ws₀ xs₀ ws xs st j
    → SomeTouched (λ (t : Touched). AxisAt z first.axes first.slots first.peak id ws₀ xs₀ t) → a ≡ axis_place z.l id
    → a + 2 * z.l ≤ length ws
numbers_word b s e =
    let k = b.at s.state s.it in
    omega (arith, axis_in k.at.holds (id_now b s.it.id_in), k.at.granted.words_long)

pub numbers_first : {z : Shape} {st : State} {id : ℕ} {ws xs : List ℕ} → NumbersLoop z st id ws xs ws xs st 0
numbers_first {z} {id = id} = record {
  index = omega arith;
  left = left_none _ _ _;
  same = refl;
  at = λ t h. record {
    now = t;
    whole =
        ap (touch_all z.l t) (support_from z.l (word_of t.store.axes id)
        ∙ ap (qubits_from z.l (word_of t.store.axes id) 0) (let e : z.l ≡ z.l - 0 = omega arith in e));
    axes = refl;
    at = h.at;
  };
}

abbrev pub BitsLeft : Shape → State → ℕ → ℕ → List ℕ → List ℕ → Result State ExpansionLimit → List ℕ → List ℕ → Type 0
BitsLeft z st j w ws xs r ws' xs' =
    LeftF z ws xs ws' xs'
    × ((t : Touched) → BitsAt z st.axes st.slots st.peak j w ws xs t → TouchedAs z st r ws' xs' (touch_all z.l t (set_bits 64 (64 * j) w)))

module _ {z : Shape} {first st : State} {id : ℕ} {ws₀ xs₀ ws xs : List ℕ} {j a w : ℕ} (b : NumbersLoop z first id ws₀ xs₀ ws xs st j)
    (more : j < z.l) (place : a ≡ axis_place z.l id) (read : w ≡ bit_or (get_or ws (a + j) 0) (get_or ws (a + (z.l + j)) 0)) where
  module _ {t : Touched} (h : AxisAt z first.axes first.slots first.peak id ws₀ xs₀ t) where
    word : List ℕ
    word = word_of t.store.axes id

    these : set_bits 64 (64 * j) w ≡ qubits_at z.l (word_of t.store.axes id) j
    unfolding qubits_at
    these =
        let k = b.at t h in
        ap (set_bits 64 (64 * j)) (axis_number k.at.holds (id_now b h.id_in) a w j more place read
        ∙ ap (λ (axes : List (List ℕ)). bit_or (x_word (word_of axes id) j) (z_word z.l (word_of axes id) j)) k.axes)

    pub bits_there : BitsAt z st.axes st.slots st.peak j w ws xs (b.at t h).now
    bits_there = record {
      at = (b.at t h).at;
      number = more;
      qubits = subst (Every (λ q. q < z.qubits)) (sym these) (support_number _ z.l _ j more (inside_support h.inside));
    }

    -- the rest, from the state after number j
    numbers_after : touch_all z.l t (support z.l (word_of t.store.axes id))
        ≡ touch_all z.l (touch_all z.l (b.at t h).now (set_bits 64 (64 * j) w))
        (qubits_from z.l (word_of t.store.axes id) (suc j) (z.l - suc j))
    numbers_after =
        let e : z.l - j ≡ suc (z.l - suc j) = omega arith in
        (b.at t h).whole
        ∙ ap (touch_all z.l (b.at t h).now) (ap (qubits_from z.l (word_of t.store.axes id) j) e
        ∙ qubits_next z.l (word_of t.store.axes id) j (z.l - suc j)
        ∙ ap (λ (xs : List ℕ). xs ++ qubits_from z.l (word_of t.store.axes id) (suc j) (z.l - suc j)) (sym these))
        ∙ touch_all_append z.l (b.at t h).now (set_bits 64 (64 * j) w) _

  pub numbers_turn : SomeTouched (λ (t : Touched). AxisAt z first.axes first.slots first.peak id ws₀ xs₀ t)
      → SomeTouched (λ (t : Touched). BitsAt z st.axes st.slots st.peak j w ws xs t)
  numbers_turn s = record { state = (b.at s.state s.it).now; it = bits_there s.it }

  module _ {r : Result State ExpansionLimit} {ws' xs' : List ℕ} (call : BitsLeft z st j w ws xs r ws' xs') where
    pub numbers_left : LeftF z ws₀ xs₀ ws' xs'
    numbers_left = left_then b.left call.0

    pub numbers_next : SomeTouched (λ (t : Touched). AxisAt z first.axes first.slots first.peak id ws₀ xs₀ t) → (s : State) → r ≡ Ok s
        → NumbersLoop z first id ws₀ xs₀ ws' xs' s (j + 1)
    numbers_next some s e = record {
      index = omega arith;
      left = numbers_left;
      same = (call.1 _ (bits_there some.it)).kept s e ∙ ap (with_slots s.peak s.slots) b.same;
      at = λ t h.
          let k = b.at t h in
          let f : suc j ≡ j + 1 = omega arith in
          record {
            now = touch_all z.l k.now (set_bits 64 (64 * j) w);
            whole = rw f at (numbers_after h);
            axes = touch_all_axes z.l k.now (set_bits 64 (64 * j) w) ∙ k.axes;
            at = record {
              granted = granted_left k.at.granted call.0;
              holds = (call.1 k.now (bits_there h)).held s e;
            };
          };
    }

    pub numbers_limit : r ≡ Err expansion_limit → (t : Touched) → AxisAt z first.axes first.slots first.peak id ws₀ xs₀ t
        → TouchedAs z first (Err expansion_limit) ws' xs' (touch_all z.l t (support z.l (word_of t.store.axes id)))
    numbers_limit e t h =
        let k = b.at t h in
        let p = (call.1 k.now (bits_there h)).refused e in
        as_limit (omega (
          arith,
          ap (λ (x : Touched). x.store.peak) (numbers_after h),
          touch_all_rises z.l (touch_all z.l k.now (set_bits 64 (64 * j) w))
              (qubits_from z.l (word_of t.store.axes id) (suc j) (z.l - suc j)),
        ))

pub numbers_end : {z : Shape} {first st : State} {id : ℕ} {ws₀ xs₀ ws xs : List ℕ} {j : ℕ} → NumbersLoop z first id ws₀ xs₀ ws xs st j
    → z.l ≤ j
    → (t : Touched) → AxisAt z first.axes first.slots first.peak id ws₀ xs₀ t
    → TouchedAs z first (Ok st) ws xs (touch_all z.l t (support z.l (word_of t.store.axes id)))
unfolding touch_all
numbers_end {z} {st = st} {id} {ws = ws} {xs} {j} b e t h =
    let k = b.at t h in
    let none : z.l - j ≡ 0 = omega arith in
    as_next b.same (subst (Holds z st.axes st.slots st.peak ws xs) (sym (k.whole
    ∙ ap (λ (x : ℕ). touch_all z.l k.now (qubits_from z.l (word_of t.store.axes id) j x)) none
    ∙ ap (touch_all z.l k.now) (qubits_end z.l (word_of t.store.axes id) j))) k.at.holds)
