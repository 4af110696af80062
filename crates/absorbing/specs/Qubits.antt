-- Images change qubit by qubit: those of the qubits of a list, and no others. Assumes nothing.
use Rattle.std.specs.Prelude.{◌≡◌, refl, ◌⊎◌, ◌≢◌, Bool, true, false, ◌||◌, ℕ, suc, ◌+◌, ◌-◌, ◌*◌, ◌≤◌, ◌<◌, eqb, length}
use Rattle.std.proofs.Math.Path.{sym, ap, ap₂}
use Rattle.std.proofs.Common.{◌∙◌, subst, inl, inr, true≢false, arith, le_refl, mul-le-mul, eq-eqb, ne_eqb, eqb-true}
use mathlib.Core.List.{List, [], ◌∷◌, ◌++◌, append_assoc, append-nil}
use Rattle.std.proofs.Math.Decide.{ℕ_discrete, dec_lt}
use Rattle.std.specs.Int.Bits.{bit_or}
use Rattle.std.proofs.Math.ListN.{get_or}
use Rattle.store.specs.Row.{row}
use Rattle.store.specs.Part.{part_at}
use Rattle.model.specs.Lists.{when◌then◌else◌, any_of, member}
use Rattle.model.specs.Words.{Value, set_bits, support}
use Rattle.model.specs.Clifford.{absorb_image}
use Rattle.theory.specs.Cases.{if_true, if_false}
use Rattle.theory.specs.Every.{Every}
use Rattle.layout.specs.declared.Shape.{Shape}
use Rattle.layout.specs.Rows.{f_slot}
use Rattle.layout.specs.Only.{Only, only_none, only_then}
use Rattle.layout.specs.Words.{OnlyWords, words_none, words_then, words_in, words_part, slots_le}
use Rattle.axes.specs.View.{word_at}
use Rattle.words_wellformed.specs.SupportQubits.{Rising, set_bits_rising, support_rising}
use Rattle.clifford_states.specs.SetBits.{qubits_at, qubits_from, support_from, qubits_end, qubits_next, support_number}
use Rattle.clifford.specs.Holds.{image_in}
use Rattle.clifford.specs.Images.{image_rows}
use Rattle.absorbing.specs.Turning.{TurnsPre, TurnedTo}

-- ---- which qubits a list has

member_first : (q : ℕ) (qs : List ℕ) → member q (q ∷ qs) ≡ true
unfolding member any_of
member_first q qs = ap (λ (b : Bool). b || any_of (eqb q) qs) (eq-eqb q q refl)

or_true : (b : Bool) → b || true ≡ true
or_true true = refl
or_true false = refl

member_one : (q r : ℕ) → q ≢ r → member q (r ∷ []) ≡ false
unfolding member any_of
member_one q r n = ap (λ (b : Bool). b || false) (ne_eqb q r n)

member_append : (q : ℕ) (xs ys : List ℕ) → member q (xs ++ ys) ≡ member q xs || member q ys
unfolding member any_of
member_append q [] ys = refl
member_append q (x ∷ xs) ys = go (eqb q x) (member_append q xs ys)
  where
    go : (b : Bool) → any_of (eqb q) (xs ++ ys) ≡ any_of (eqb q) xs || any_of (eqb q) ys
        → b || any_of (eqb q) (xs ++ ys) ≡ (b || any_of (eqb q) xs) || any_of (eqb q) ys
    go true e = refl
    go false e = e

-- a list has all that is in it
pub member_all : (xs : List ℕ) → Every (λ q. member q xs ≡ true) xs
member_all xs = go xs [] refl
  where
    -- those behind the ones that were passed
    go : (ys before : List ℕ) → before ++ ys ≡ xs → Every (λ q. member q xs ≡ true) ys
    go [] before e = tt
    go (y ∷ ys) before e = (
      ap (member y) (sym e) ∙ member_append y before (y ∷ ys) ∙ ap (λ (b : Bool). member y before || b) (member_first y ys) ∙ or_true (member y before),
      go ys (before ++ (y ∷ [])) (append_assoc before (y ∷ []) ys ∙ e),
    )

-- a rising list's numbers are not below its start
member_low : (lo hi q : ℕ) (xs : List ℕ) → Rising lo hi xs → member q xs ≡ true → lo ≤ q
unfolding member any_of
member_low lo hi q [] h e = absurd (true≢false (sym e))
member_low lo hi q (x ∷ xs) h e = go (eqb q x) refl e (λ f. member_low (suc x) hi q xs h.1 f)
  where
    go : (b : Bool) → eqb q x ≡ b → b || any_of (eqb q) xs ≡ true → (any_of (eqb q) xs ≡ true → suc x ≤ q) → lo ≤ q
    go true f g ih = omega (arith, eqb-true q x f, h.0)
    go false f g ih = omega (arith, ih g, h.0)

rising_later : (lo hi : ℕ) (xs ys : List ℕ) → Rising lo hi (xs ++ ys) → (q : ℕ) → member q ys ≡ true → lo ≤ q
rising_later lo hi [] ys h q e = member_low lo hi q ys h e
rising_later lo hi (x ∷ xs) ys h q e = omega (arith, rising_later (suc x) hi xs ys h.1 q e, h.0)

-- two parts of a rising list have no number in common
pub rising_apart : (lo hi : ℕ) (xs ys : List ℕ) → Rising lo hi (xs ++ ys) → (q : ℕ) → member q xs ≡ true → member q ys ≡ true → ⊥
unfolding member any_of
rising_apart lo hi [] ys h q e f = true≢false (sym e)
rising_apart lo hi (x ∷ xs) ys h q e f = go (eqb q x) refl e (λ g. rising_apart (suc x) hi xs ys h.1 q g f)
  where
    go : (b : Bool) → eqb q x ≡ b → b || any_of (eqb q) xs ≡ true → (any_of (eqb q) xs ≡ true → ⊥) → ⊥
    go true d g ih = omega (arith, eqb-true q x d, rising_later (suc x) hi xs ys h.1 q f)
    go false d g ih = ih g

-- ---- the images of a list's qubits

-- the slot of qubit q plus 1, or 0
abbrev pub slot_in : Shape → List ℕ → ℕ → ℕ
slot_in z xs q = get_or (row xs z.u f_slot) q 0

-- m slots, each that of one qubit, and the word at b before their images
pub record QubitsPre (z : Shape) (m b k : ℕ) (ws xs : List ℕ) : Type 0 where
  pub turns : TurnsPre z (3 * m) b k ws xs
  pub row_long : z.qubits ≤ z.u
  pub slots : (q : ℕ) → q < z.qubits → slot_in z xs q ≤ m
  pub apart : (q r : ℕ) → q < z.qubits → r < z.qubits → (slot_in z xs q ≡ 0 → ⊥) → slot_in z xs q ≡ slot_in z xs r → q ≡ r

-- some number of slots
pub record SomeSlots (P : ℕ → Type 0) : Type 0 where
  pub count : ℕ
  pub it : P count

-- image c of the slot of qubit q is changed if the list has q
abbrev pub changed : Shape → ℕ → ℕ → List ℕ → List ℕ → List ℕ → ℕ → ℕ → Value
changed z b k qs ws xs q i = when member q qs then absorb_image z.l (word_at z.l ws b) k (image_in z ws xs i) else image_in z ws xs i

pub record TurnedFor (z : Shape) (m b k : ℕ) (qs : List ℕ) (ws xs ws' xs' : List ℕ) : Type 0 where
  pub images : (q : ℕ) → q < z.qubits → (s : ℕ) → slot_in z xs q ≡ suc s → (c : ℕ) → c < 3
      → image_in z ws' xs' (3 * s + c) ≡ changed z b k qs ws xs q (3 * s + c)
  pub words : OnlyWords (z.limit - 3 * m * (2 * z.l)) z.limit ws ws'
  pub numbers : Only image_rows z.u xs xs'

pub for_none : {z : Shape} {m b k : ℕ} {ws xs : List ℕ} → TurnedFor z m b k [] ws xs ws xs
unfolding when◌then◌else◌ member any_of
for_none {z} {ws = ws} {xs} = record { images = λ q h s e c f. refl; words = words_none _ _ ws; numbers = only_none _ z.u xs }

-- the slots stay
slot_same : {z : Shape} {m b k : ℕ} {qs ws xs ws' xs' : List ℕ} → TurnedFor z m b k qs ws xs ws' xs' → (q : ℕ) → slot_in z xs' q ≡ slot_in z xs q
unfolding member any_of
slot_same t q = ap (λ (r : List ℕ). get_or r q 0) (t.numbers.rows f_slot (omega arith) refl)

-- a word before the images stays
pub word_same : {z : Shape} {m b k : ℕ} {qs ws xs ws' xs' : List ℕ} → TurnedFor z m b k qs ws xs ws' xs' → z.limit ≤ length ws
    → (a : ℕ) → a + 2 * z.l + 3 * m * (2 * z.l) ≤ z.limit → word_at z.l ws' a ≡ word_at z.l ws a
word_same {z} t long a h = words_part t.words a (2 * z.l) (omega arith) (inl (omega arith))

-- what is demanded holds on
pub qubits_kept : {z : Shape} {m b k : ℕ} {qs ws xs ws' xs' : List ℕ} → QubitsPre z m b k ws xs → TurnedFor z m b k qs ws xs ws' xs'
    → QubitsPre z m b k ws' xs'
qubits_kept {z} {m} {b} {k} {qs} {ws} {xs} {ws'} {xs'} pre t = record {
  turns = record {
    slots = pre.turns.slots;
    words_long = omega (arith, pre.turns.words_long, t.words.long);
    numbers_long = omega (arith, pre.turns.numbers_long, t.numbers.long);
    entry = pre.turns.entry;
    small = pre.turns.small;
    word = pre.turns.word;
    quarters = pre.turns.quarters;
  };
  row_long = pre.row_long;
  slots = λ q h. omega (arith, slot_same t q, pre.slots q h);
  apart = λ q r h l n e.
      pre.apart q r h l (λ f. n (slot_same t q ∙ f)) (sym (slot_same t q) ∙ e ∙ slot_same t r);
}

-- those of one list, then those of another
pub for_then : {z : Shape} {m b k : ℕ} {qs rs ws xs ws₁ xs₁ ws₂ xs₂ : List ℕ} → QubitsPre z m b k ws xs
    → TurnedFor z m b k qs ws xs ws₁ xs₁ → TurnedFor z m b k rs ws₁ xs₁ ws₂ xs₂
    → ((q : ℕ) → member q qs ≡ true → member q rs ≡ true → ⊥) → TurnedFor z m b k (qs ++ rs) ws xs ws₂ xs₂
for_then {z} {m} {b} {k} {qs} {rs} {ws} {xs} {ws₁} {xs₁} {ws₂} {xs₂} pre f g none = record {
  images = λ q h s e c d. g.images q h s (slot_same f q ∙ e) c d ∙ both q (3 * s + c) (f.images q h s e c d) (member q qs) refl (member q rs) refl;
  words = words_then f.words g.words;
  numbers = only_then f.numbers g.numbers;
}
  where
    turned : Value → Value
    turned v = absorb_image z.l (word_at z.l ws b) k v

    same : word_at z.l ws₁ b ≡ word_at z.l ws b
    same = word_same f pre.turns.words_long b pre.turns.word

    both : (q i : ℕ) → image_in z ws₁ xs₁ i ≡ changed z b k qs ws xs q i → (x : Bool) → member q qs ≡ x → (y : Bool) → member q rs ≡ y
        → changed z b k rs ws₁ xs₁ q i ≡ changed z b k (qs ++ rs) ws xs q i
    both q i e true mx true my = absurd (none q mx my)
    both q i e true mx false my =
        if_false _ _ my ∙ e ∙ if_true _ _ mx ∙ sym (if_true _ _ (member_append q qs rs ∙ ap₂ ◌||◌ mx my))
    both q i e false mx true my =
        if_true _ _ my ∙ ap₂ (λ (w : List ℕ) (v : Value). absorb_image z.l w k v) same (e ∙ if_false _ _ mx)
        ∙ sym (if_true _ _ (member_append q qs rs ∙ ap₂ ◌||◌ mx my))
    both q i e false mx false my =
        if_false _ _ my ∙ e ∙ if_false _ _ mx ∙ sym (if_false _ _ (member_append q qs rs ∙ ap₂ ◌||◌ mx my))

-- ---- one qubit

-- it has no slot: nothing changes
pub for_untouched : {z : Shape} {m b k q : ℕ} {ws xs : List ℕ} {v : ℕ} → v ≡ slot_in z xs q → v ≡ 0 → TurnedFor z m b k (q ∷ []) ws xs ws xs
for_untouched {z} {m} {b} {k} {q} {ws} {xs} read none = record {
  images = λ r h s e c d. sym (if_false _ _ (member_one r q (λ f. omega (arith, read, ap (slot_in z xs) f))));
  words = words_none _ _ ws;
  numbers = only_none _ z.u xs;
}

module _ {z : Shape} {m b k q : ℕ} {ws xs : List ℕ} {v : ℕ} (pre : QubitsPre z m b k ws xs) (inside : q < z.qubits)
    (read : v ≡ slot_in z xs q) (some : v ≡ 0 → ⊥) where
  -- the slot's images are there
  pub slot_turns : TurnsPre z (3 * v) b k ws xs × (3 * (v - 1) ≤ 3 * v)
  slot_turns =
      let few = pre.slots q inside in
      let room : 3 * v * (2 * z.l) ≤ 3 * m * (2 * z.l) = mul-le-mul (omega (arith, few)) (le_refl (2 * z.l)) in (
        record {
          slots = omega (arith, pre.turns.slots);
          words_long = pre.turns.words_long;
          numbers_long = pre.turns.numbers_long;
          entry = omega (arith, pre.turns.entry, few);
          small = pre.turns.small;
          word = omega (arith, pre.turns.word);
          quarters = pre.turns.quarters;
        },
        omega arith,
      )

  pub for_slot : {ws' xs' : List ℕ} → TurnedTo z (3 * (v - 1)) (3 * v) b k ws xs ws' xs' (3 * v) → TurnedFor z m b k (q ∷ []) ws xs ws' xs'
  for_slot {ws'} {xs'} t = record {
    images = λ r h s e c d. each r h s e c d (ℕ_discrete r q);
    words = words_in _ _ (omega (arith, room)) (omega arith) t.words;
    numbers = t.numbers;
  }
    where
      room : 3 * v * (2 * z.l) ≤ 3 * m * (2 * z.l)
      room = mul-le-mul (omega (arith, pre.slots q inside)) (le_refl (2 * z.l))

      there : (r : ℕ) → r < z.qubits → (s : ℕ) → slot_in z xs r ≡ suc s → (c : ℕ) → c < 3 → (3 * s + c) * (2 * z.l) + 2 * z.l ≤ z.limit
      there r h s e c d = omega (arith, slots_le z.l (3 * s + c) (3 * m) (omega (arith, pre.slots r h)), pre.turns.slots)

      each : (r : ℕ) → r < z.qubits → (s : ℕ) → slot_in z xs r ≡ suc s → (c : ℕ) → c < 3 → Dec (r ≡ q)
          → image_in z ws' xs' (3 * s + c) ≡ changed z b k (q ∷ []) ws xs r (3 * s + c)
      each r h s e c d (yes f) =
          let g : v ≡ suc s = read ∙ ap (slot_in z xs) (sym f) ∙ e in
          t.done (3 * s + c) (omega arith) (omega arith)
          ∙ sym (if_true _ _ (subst (λ (x : ℕ). member r (x ∷ []) ≡ true) f (member_first r [])))
      each r h s e c d (no n) =
          t.left (3 * s + c) (away (ℕ_discrete s (v - 1))) (there r h s e c d) ∙ sym (if_false _ _ (member_one r q n))
        where
          away : Dec (s ≡ v - 1) → (3 * s + c < 3 * (v - 1)) ⊎ (3 * v ≤ 3 * s + c)
          away (yes f) =
              absurd (n (pre.apart r q h inside (λ g. omega (arith, e)) (e ∙ (let g : suc s ≡ v = omega arith in g) ∙ read)))
          away (no f) = aside (dec_lt s (v - 1))
            where
              aside : Dec (s < v - 1) → (3 * s + c < 3 * (v - 1)) ⊎ (3 * v ≤ 3 * s + c)
              aside (yes g) = inl (omega arith)
              aside (no g) = inr (omega arith)

-- ---- the qubits of a number's set bits

pub record NumberPre (z : Shape) (m b k j w : ℕ) (ws xs : List ℕ) : Type 0 where
  pub at : QubitsPre z m b k ws xs
  pub number : j < 64
  pub qubits : Every (λ q. q < z.qubits) (set_bits 64 (64 * j) w)

-- those of `done` are changed, qubits qs are left
pub record NumberNow (z : Shape) (m b k j w : ℕ) (ws₀ xs₀ ws xs qs : List ℕ) : Type 0 where
  pub done : List ℕ
  pub whole : set_bits 64 (64 * j) w ≡ done ++ qs
  pub turned : TurnedFor z m b k done ws₀ xs₀ ws xs
  pub qubits : Every (λ q. q < z.qubits) qs

pub record NumberLoop (z : Shape) (b k j w : ℕ) (ws₀ xs₀ ws xs qs : List ℕ) : Type 0 where
  pub at : (m : ℕ) → NumberPre z m b k j w ws₀ xs₀ → NumberNow z m b k j w ws₀ xs₀ ws xs qs

pub number_first : {z : Shape} {b k j w : ℕ} {ws xs qs : List ℕ} → set_bits 64 (64 * j) w ≡ qs → NumberLoop z b k j w ws xs ws xs qs
number_first {z} e = record {
  at = λ m pre. record {
    done = [];
    whole = e;
    turned = for_none;
    qubits = subst (Every (λ q. q < z.qubits)) e pre.qubits;
  };
}

-- what a turn's call leaves
abbrev pub QubitLeft : Shape → ℕ → ℕ → ℕ → List ℕ → List ℕ → List ℕ → List ℕ → Type 0
QubitLeft z q b k ws xs ws' xs' = (m : ℕ) → QubitsPre z m b k ws xs → TurnedFor z m b k (q ∷ []) ws xs ws' xs'

module _ {z : Shape} {b k j w : ℕ} {ws₀ xs₀ ws xs qs : List ℕ} {q : ℕ} {rest : List ℕ} (loop : NumberLoop z b k j w ws₀ xs₀ ws xs qs)
    (lowest : qs ≡ q ∷ rest) where
  module _ {m : ℕ} (pre : NumberPre z m b k j w ws₀ xs₀) where
    split : (q < z.qubits) × Every (λ i. i < z.qubits) rest
    split = subst (Every (λ i. i < z.qubits)) lowest (loop.at m pre).qubits

    qubits_now : QubitsPre z m b k ws xs
    qubits_now = qubits_kept pre.at (loop.at m pre).turned

    number_more : {ws' xs' : List ℕ} → QubitLeft z q b k ws xs ws' xs' → NumberNow z m b k j w ws₀ xs₀ ws' xs' rest
    number_more call =
        let now = loop.at m pre in
        let cut : set_bits 64 (64 * j) w ≡ now.done ++ (q ∷ rest) = now.whole ∙ ap (λ (xs : List ℕ). now.done ++ xs) lowest in
        record {
          done = now.done ++ (q ∷ []);
          whole = cut ∙ sym (append_assoc now.done (q ∷ []) rest);
          turned = for_then pre.at now.turned (call m qubits_now) (λ r e f.
              rising_apart (64 * j) (64 * j + 64) now.done (q ∷ rest)
              (subst (Rising (64 * j) (64 * j + 64)) cut (set_bits_rising 64 (64 * j) w)) r e (one r f));
          qubits = split.1;
        }
      where
        one : (r : ℕ) → member r (q ∷ []) ≡ true → member r (q ∷ rest) ≡ true
        one r f = member_append r (q ∷ []) rest ∙ ap (λ (x : Bool). x || member r rest) f

  pub number_turn : SomeSlots (λ m. NumberPre z m b k j w ws₀ xs₀) → SomeSlots (λ m. QubitsPre z m b k ws xs) × (q < z.qubits)
  number_turn s = (record { count = s.count; it = qubits_now s.it }, (split s.it).0)

  pub number_next : {ws' xs' : List ℕ} → QubitLeft z q b k ws xs ws' xs' → NumberLoop z b k j w ws₀ xs₀ ws' xs' rest
  number_next call = record { at = λ m pre. number_more pre call }

pub number_end : {z : Shape} {b k j w : ℕ} {ws₀ xs₀ ws xs qs : List ℕ} → NumberLoop z b k j w ws₀ xs₀ ws xs qs → qs ≡ []
    → (m : ℕ) → NumberPre z m b k j w ws₀ xs₀ → TurnedFor z m b k (set_bits 64 (64 * j) w) ws₀ xs₀ ws xs
number_end {z} {b} {k} {ws₀ = ws₀} {xs₀} {ws} {xs} loop e m pre =
    let now = loop.at m pre in
    subst (λ (qs : List ℕ). TurnedFor z m b k qs ws₀ xs₀ ws xs)
    (sym (now.whole ∙ ap (λ (qs : List ℕ). now.done ++ qs) e ∙ append-nil now.done)) now.turned

-- ---- the qubits that the word at a place acts on

pub record ActedPre (z : Shape) (m a b k : ℕ) (ws xs : List ℕ) : Type 0 where
  pub at : QubitsPre z m b k ws xs
  pub few : z.l ≤ 64
  pub word : a + 2 * z.l + 3 * m * (2 * z.l) ≤ z.limit
  pub qubits : Every (λ q. q < z.qubits) (support z.l (word_at z.l ws a))

-- those of the numbers before the j-th are changed
pub record ActedNow (z : Shape) (m a b k : ℕ) (ws₀ xs₀ ws xs : List ℕ) (j : ℕ) : Type 0 where
  pub done : List ℕ
  pub whole : support z.l (word_at z.l ws₀ a) ≡ done ++ qubits_from z.l (word_at z.l ws₀ a) j (z.l - j)
  pub turned : TurnedFor z m b k done ws₀ xs₀ ws xs

pub record ActedLoop (z : Shape) (a b k : ℕ) (ws₀ xs₀ ws xs : List ℕ) (j : ℕ) : Type 0 where
  pub index : j ≤ z.l
  pub at : (m : ℕ) → ActedPre z m a b k ws₀ xs₀ → ActedNow z m a b k ws₀ xs₀ ws xs j

pub acted_first : {z : Shape} {a b k : ℕ} {ws xs : List ℕ} → ActedLoop z a b k ws xs ws xs 0
acted_first {z} {a} {ws = ws} = record {
  index = omega arith;
  at = λ m pre. record {
    done = [];
    whole =
        support_from z.l (word_at z.l ws a)
        ∙ ap (qubits_from z.l (word_at z.l ws a) 0) (let e : z.l ≡ z.l - 0 = omega arith in e);
    turned = for_none;
  };
}

abbrev pub NumberLeft : Shape → ℕ → ℕ → ℕ → ℕ → List ℕ → List ℕ → List ℕ → List ℕ → Type 0
NumberLeft z b k j w ws xs ws' xs' =
    (m : ℕ) → NumberPre z m b k j w ws xs → TurnedFor z m b k (set_bits 64 (64 * j) w) ws xs ws' xs'

module _ {z : Shape} {a b k : ℕ} {ws₀ xs₀ ws xs : List ℕ} {j : ℕ} (loop : ActedLoop z a b k ws₀ xs₀ ws xs j) (more : j < z.l) where
  -- the word is there
  pub acted_there : SomeSlots (λ m. ActedPre z m a b k ws₀ xs₀) → (a + 2 * z.l ≤ length ws) × (j < z.l)
  acted_there s = (
    omega (arith, s.it.word, s.it.at.turns.words_long, (loop.at s.count s.it).turned.words.long),
    more,
  )

  module _ {w : ℕ} (read : w ≡ bit_or (get_or ws (a + j) 0) (get_or ws (a + (z.l + j)) 0)) where
    module _ {m : ℕ} (pre : ActedPre z m a b k ws₀ xs₀) where
      same : word_at z.l ws a ≡ word_at z.l ws₀ a
      same = word_same (loop.at m pre).turned pre.at.turns.words_long a pre.word

      these : set_bits 64 (64 * j) w ≡ qubits_at z.l (word_at z.l ws₀ a) j
      unfolding qubits_at
      these = ap (set_bits 64 (64 * j)) (read ∙ ap₂ bit_or (number j (omega arith)) (number (z.l + j) (omega arith)))
        where
          number : (i : ℕ) → i < 2 * z.l → get_or ws (a + i) 0 ≡ get_or (word_at z.l ws₀ a) i 0
          number i h = sym (part_at ws a (2 * z.l) i h) ∙ ap (λ (y : List ℕ). get_or y i 0) same

      number_there : NumberPre z m b k j w ws xs
      number_there = record {
        at = qubits_kept pre.at (loop.at m pre).turned;
        number = omega (arith, pre.few);
        qubits = subst (Every (λ q. q < z.qubits)) (sym these) (support_number _ z.l _ j more pre.qubits);
      }

      acted_more : {ws' xs' : List ℕ} → NumberLeft z b k j w ws xs ws' xs' → ActedNow z m a b k ws₀ xs₀ ws' xs' (j + 1)
      acted_more call =
          let now = loop.at m pre in
          let v = word_at z.l ws₀ a in
          let n : z.l - j ≡ suc (z.l - (j + 1)) = omega arith in
          let i : suc j ≡ j + 1 = omega arith in
          let later : qubits_from z.l v j (z.l - j) ≡ set_bits 64 (64 * j) w ++ qubits_from z.l v (j + 1) (z.l - (j + 1))
          = ap (qubits_from z.l v j) n ∙ qubits_next z.l v j (z.l - (j + 1))
          ∙ ap₂ (λ (xs : List ℕ) (x : ℕ). xs ++ qubits_from z.l v x (z.l - (j + 1))) (sym these) i in
          let cut : support z.l v ≡ now.done ++ (set_bits 64 (64 * j) w ++ qubits_from z.l v (j + 1) (z.l - (j + 1)))
          = now.whole ∙ ap (λ (xs : List ℕ). now.done ++ xs) later in
          record {
            done = now.done ++ set_bits 64 (64 * j) w;
            whole = cut ∙ sym (append_assoc now.done (set_bits 64 (64 * j) w) (qubits_from z.l v (j + 1) (z.l - (j + 1))));
            turned = for_then pre.at now.turned (call m number_there) (λ r e f.
                rising_apart 0 (64 * z.l) now.done (set_bits 64 (64 * j) w ++ qubits_from z.l v (j + 1) (z.l - (j + 1)))
                (subst (Rising 0 (64 * z.l)) cut (support_rising z.l v)) r e
                (member_append r (set_bits 64 (64 * j) w) (qubits_from z.l v (j + 1) (z.l - (j + 1)))
                ∙ ap (λ (x : Bool). x || member r (qubits_from z.l v (j + 1) (z.l - (j + 1)))) f));
          }

    pub acted_turn : SomeSlots (λ m. ActedPre z m a b k ws₀ xs₀) → SomeSlots (λ m. NumberPre z m b k j w ws xs)
    acted_turn s = record { count = s.count; it = number_there s.it }

    pub acted_next : {ws' xs' : List ℕ} → NumberLeft z b k j w ws xs ws' xs' → ActedLoop z a b k ws₀ xs₀ ws' xs' (j + 1)
    acted_next call = record { index = omega arith; at = λ m pre. acted_more pre call }

pub acted_end : {z : Shape} {a b k : ℕ} {ws₀ xs₀ ws xs : List ℕ} {j : ℕ} → ActedLoop z a b k ws₀ xs₀ ws xs j → z.l ≤ j
    → (m : ℕ) → ActedPre z m a b k ws₀ xs₀ → TurnedFor z m b k (support z.l (word_at z.l ws₀ a)) ws₀ xs₀ ws xs
acted_end {z} {a} {b} {k} {ws₀} {xs₀} {ws} {xs} {j} loop h m pre =
    let now = loop.at m pre in
    let v = word_at z.l ws₀ a in
    let none : z.l - j ≡ 0 = omega arith in
    subst (λ (qs : List ℕ). TurnedFor z m b k qs ws₀ xs₀ ws xs) (sym (now.whole
    ∙ ap (λ (x : ℕ). now.done ++ qubits_from z.l v j x) none ∙ ap (λ (qs : List ℕ). now.done ++ qs) (qubits_end z.l v j)
    ∙ append-nil now.done)) now.turned
