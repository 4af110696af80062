-- The images of an axis's letters, multiplied qubit after qubit: the model's `wordImage`. Assumes nothing.
use Rattle.std.specs.Prelude.{◌≡◌, length, get_or, replicate}
use Rattle.std.proofs.Common.{subst, ap₂, ◌∙◌}
use Rattle.std.proofs.Math.Path.{refl, sym, ap}
use mathlib.Core.List.{List, [], ◌∷◌, ◌++◌}
use Prim.Native.Nat.{ℕ, ◌+◌, ◌*◌, ◌≤◌, ◌<◌, suc, ◌-◌}
use native.Mathlib.Omega.{arith}
use Rattle.std.proofs.lemmas.List.{length-replicate}
use Rattle.std.specs.Int.Bits.{bit_or}
use Rattle.store.specs.Part.{put, part_put_same}
use Rattle.store.specs.Row.{row}
use Rattle.pauli.specs.Word.{identity}
use Rattle.pauli.specs.Letter.{single, letter_at as qubit_letter}
use Rattle.model.specs.Words.{Value, word_of, as_value, set_bits, support}
use Rattle.model.specs.Clifford.{Touched, letter_image, multiply_images, word_image}
use Rattle.theory.specs.Every.{Every}
use Rattle.layout.specs.declared.Shape.{Shape}
use Rattle.layout.specs.Rows.{f_slot}
use Rattle.layout.specs.Words.{axis_place, scratch_place, slots_le, OnlyWords, words_none, words_then, words_put}
use Rattle.layout.specs.Shape.{Granted, granted_same}
use Rattle.axes.specs.View.{word_at, axes_of, read_long}
use Rattle.words_wellformed.specs.HeldImages.{IsXYZ, acts_letter}
use Rattle.words_wellformed.specs.Inside.{Inside, inside_acts}
use Rattle.words_wellformed.specs.Conjugation.{value_eq}
use Rattle.words_wellformed.specs.SupportQubits.{support_all}
use Rattle.clifford_states.specs.Slots.{slot_of, image_at, letter_free, letter_held}
use Rattle.clifford_states.specs.SetBits.{qubits_at, qubits_from, support_from, qubits_end, qubits_next}
use Rattle.clifford_states.specs.SetBits.{support_number, multiply_images_append}
use Rattle.clifford.specs.Holds.{image_in, mask_place, SomeTouched, HeldAt, holds_behind, axis_in, axis_number}
use Rattle.clifford.specs.Images.{ImageThere}
use Rattle.carrying.specs.Scratch.{scratch_value, TimesPre, ScratchTimes}

-- ---- a letter of an axis

-- both stores hold t, and axis id is one of its axes
pub record AxisHeld (z : Shape) (id : ℕ) (ws xs : List ℕ) (t : Touched) : Type 0 where
  pub axes : ℕ
  pub slots : ℕ
  pub peak : ℕ
  pub at : HeldAt z axes slots peak ws xs t
  pub id_in : id < axes

-- what lies behind the limit may change
pub axis_behind : {z : Shape} {id : ℕ} {ws xs ws' : List ℕ} {t : Touched} → AxisHeld z id ws xs t
    → OnlyWords z.limit (mask_place z) ws ws'
    → AxisHeld z id ws' xs t
axis_behind h k = record {
  axes = h.axes;
  slots = h.slots;
  peak = h.peak;
  at = record {
    granted = granted_same h.at.granted k.long refl;
    holds = holds_behind k h.at.holds;
  };
  id_in = h.id_in;
}

-- its word
abbrev pub axis_word : ℕ → Touched → List ℕ
axis_word id t = word_of t.store.axes id

pub record LetterAt (z : Shape) (id q e : ℕ) (ws xs : List ℕ) (t : Touched) : Type 0 where
  pub held : AxisHeld z id ws xs t
  pub qubit : q < z.qubits
  pub letter : IsXYZ (qubit_letter z.l (axis_word id t) q)
  pub small : e < 4

-- the image of its letter
unfoldable pub letter_of_axis : Shape → ℕ → ℕ → Touched → Value
letter_of_axis z id q t = letter_image z.l t.held q (qubit_letter z.l (axis_word id t) q)

module _ {z : Shape} {id q e : ℕ} {ws xs : List ℕ} {t : Touched} (h : LetterAt z id q e ws xs t) where
  pub letter_granted : Granted z ws xs
  letter_granted = h.held.at.granted

  pub letter_axis : axis_place z.l id + 2 * z.l ≤ length ws
  letter_axis = omega (arith, axis_in h.held.at.holds h.held.id_in, letter_granted.words_long)

  pub letter_qubit : q < 64 * z.l
  letter_qubit = omega (arith, h.qubit, letter_granted.sized.bits)

  pub letter_times : TimesPre z ws
  letter_times = record {
    words_long = letter_granted.words_long;
    limit = letter_granted.sized.limit;
    few = letter_granted.sized.few;
  }

  axis_is : {p : List ℕ} → ((n : ℕ) → id < n → p ≡ word_of (axes_of z.l n ws) id) → p ≡ axis_word id t
  axis_is f = f h.held.axes h.held.id_in ∙ ap (λ (axes : List (List ℕ)). word_of axes id) h.held.at.holds.axes.are

  pub letter_long : {p : List ℕ} → ((n : ℕ) → id < n → p ≡ word_of (axes_of z.l n ws) id) → length p ≡ 2 * z.l
  letter_long f = read_long z.l ws id f letter_axis

  -- what was read: the letter and the slot
  module _ {p : List ℕ} {c s : ℕ} (axis : (n : ℕ) → id < n → p ≡ word_of (axes_of z.l n ws) id) (letter : c ≡ qubit_letter z.l p q)
      (slot : s ≡ get_or (row xs z.u f_slot) q 0) where
    letter_is : c ≡ qubit_letter z.l (axis_word id t) q
    letter_is = letter ∙ ap (λ (w : List ℕ). qubit_letter z.l w q) (axis_is axis)

    slot_is : s ≡ slot_of q t.held
    slot_is = slot ∙ h.held.at.holds.slots q h.qubit

    pub letter_own : s ≡ 0 → letter_of_axis z id q t ≡ as_value (single z.l q c)
    unfolding letter_of_axis
    letter_own none =
        letter_free z.l 0 t.held q _ (sym slot_is ∙ none) ∙ ap (λ (x : ℕ). as_value (single z.l q x)) (sym letter_is)

    pub own_letter : {ws' : List ℕ} {r : ℕ} → s ≡ 0 → ScratchTimes z e ws (as_value (single z.l q c)) ws' r
        → ScratchTimes z e ws (letter_of_axis z id q t) ws' r
    own_letter {ws'} {r} none k = subst (λ (v : Value). ScratchTimes z e ws v ws' r) (sym (letter_own none)) k

    module _ (some : s ≡ 0 → ⊥) where
      c_some : (0 < c) × (c ≤ 3)
      c_some = (omega (arith, letter_is, h.letter.some), omega (arith, letter_is, h.letter.small))

      found : (s - 1 < length t.held) × (letter_image z.l t.held q (suc (c - 1)) ≡ image_at t.held (3 * (s - 1) + (c - 1)))
      found =
          letter_held z.l 0 (s - 1) t.held q (c - 1) (let a : c - 1 < 3 = omega (arith, c_some.0, c_some.1) in a)
          (sym slot_is ∙ (let a : s ≡ 1 + (s - 1) = omega arith in a))

      image_number : 3 * (s - 1) + (c - 1) < 3 * h.held.slots
      image_number = omega (arith, found.0, h.held.at.holds.count, c_some.0, c_some.1)

      pub letter_image_there : ImageThere z (3 * (s - 1) + (c - 1)) xs
      letter_image_there = record {
        slot = omega (arith, slots_le z.l _ _ image_number, h.held.at.holds.room);
        numbers_long = letter_granted.numbers_long;
        entry =
            omega (arith, image_number, letter_granted.sized.words_row (3 * h.held.slots) (omega (arith, h.held.at.holds.room)));
      }

      pub letter_image_lem : letter_of_axis z id q t ≡ image_in z ws xs (3 * (s - 1) + (c - 1))
      unfolding letter_of_axis
      letter_image_lem =
          let e : suc (c - 1) ≡ qubit_letter z.l (axis_word id t) q = omega (arith, c_some.0, letter_is) in
          ap (letter_image z.l t.held q) (sym e) ∙ found.1 ∙ sym (h.held.at.holds.images _ image_number)

      pub held_letter : {ws' : List ℕ} {r : ℕ} → ScratchTimes z e ws (image_in z ws xs (3 * (s - 1) + (c - 1))) ws' r
          → ScratchTimes z e ws (letter_of_axis z id q t) ws' r
      held_letter {ws'} {r} k = subst (λ (v : Value). ScratchTimes z e ws v ws' r) (sym letter_image_lem) k

-- ---- the letters on the qubits of a number's set bits

-- qubit q is one of the program's, and the axis acts on it
abbrev pub Acted : Shape → ℕ → Touched → ℕ → Type 0
Acted z id t q = (q < z.qubits) × IsXYZ (qubit_letter z.l (axis_word id t) q)

pub record LettersAt (z : Shape) (id j w e : ℕ) (ws xs : List ℕ) (t : Touched) : Type 0 where
  pub held : AxisHeld z id ws xs t
  pub number : j < z.l
  pub qubits : Every (Acted z id t) (set_bits 64 (64 * j) w)
  pub small : e < 4

-- the number is small
pub letters_number : {z : Shape} {id j w e : ℕ} {ws xs : List ℕ} {t : Touched} → LettersAt z id j w e ws xs t → j < 64
letters_number h = omega (arith, h.number, h.held.at.granted.sized.few)

-- the images of the letters on qs are multiplied behind the scratch word
pub record LettersTimes (z : Shape) (id e : ℕ) (ws : List ℕ) (t : Touched) (qs : List ℕ) (ws' : List ℕ) (r : ℕ) : Type 0 where
  pub small : r < 4
  pub value : scratch_value z ws' r ≡ multiply_images z.l t.held (axis_word id t) (scratch_value z ws e) qs
  pub words : OnlyWords z.limit (mask_place z) ws ws'

-- those of qubits qs are still to be multiplied
pub record LettersNow (z : Shape) (id j w e : ℕ) (ws₀ ws xs : List ℕ) (f : ℕ) (qs : List ℕ) (t : Touched) : Type 0 where
  pub whole : multiply_images z.l t.held (axis_word id t) (scratch_value z ws₀ e) (set_bits 64 (64 * j) w)
      ≡ multiply_images z.l t.held (axis_word id t) (scratch_value z ws f) qs
  pub held : AxisHeld z id ws xs t
  pub qubits : Every (Acted z id t) qs

pub record LettersLoop (z : Shape) (id j w e : ℕ) (ws₀ ws xs : List ℕ) (f : ℕ) (qs : List ℕ) : Type 0 where
  pub phase : f < 4
  pub words : OnlyWords z.limit (mask_place z) ws₀ ws
  pub at : (t : Touched) → LettersAt z id j w e ws₀ xs t → LettersNow z id j w e ws₀ ws xs f qs t

pub letters_first : {z : Shape} {id j w e : ℕ} {ws xs qs : List ℕ} → set_bits 64 (64 * j) w ≡ qs
    → SomeTouched (λ (t : Touched). LettersAt z id j w e ws xs t) → LettersLoop z id j w e ws ws xs e qs
letters_first {z} {id} {e = e} {ws} all s = record {
  phase = s.it.small;
  words = words_none _ _ _;
  at = λ t h. record {
    whole = ap (multiply_images z.l t.held (axis_word id t) (scratch_value z ws e)) all;
    held = h.held;
    qubits = subst (Every (Acted z id t)) all h.qubits;
  };
}

module _ {z : Shape} {id j w e : ℕ} {ws₀ ws xs : List ℕ} {f q : ℕ} {qs rest : List ℕ} (b : LettersLoop z id j w e ws₀ ws xs f qs)
    (lowest : qs ≡ q ∷ rest) where
  module _ {t : Touched} (h : LettersAt z id j w e ws₀ xs t) where
    split : Acted z id t q × Every (Acted z id t) rest
    split = subst (Every (Acted z id t)) lowest (b.at t h).qubits

    pub letter_at : LetterAt z id q f ws xs t
    letter_at = record { held = (b.at t h).held; qubit = split.0.0; letter = split.0.1; small = b.phase }

  pub letters_turn : SomeTouched (λ (t : Touched). LettersAt z id j w e ws₀ xs t) → SomeTouched (λ (t : Touched). LetterAt z id q f ws xs t)
  letters_turn s = record { state = s.state; it = letter_at s.it }

  pub letters_next : {ws' : List ℕ} {r : ℕ} → SomeTouched (λ (t : Touched). LettersAt z id j w e ws₀ xs t)
      → ((t : Touched) → LetterAt z id q f ws xs t → ScratchTimes z f ws (letter_of_axis z id q t) ws' r)
      → LettersLoop z id j w e ws₀ ws' xs r rest
  unfolding multiply_images letter_of_axis
  letters_next s call = record {
    phase = (call s.state (letter_at s.it)).small;
    words = words_then b.words (call s.state (letter_at s.it)).words;
    at = λ t h.
        let k = b.at t h in
        let c = call t (letter_at h) in
        record {
          whole =
              k.whole ∙ ap (multiply_images z.l t.held (axis_word id t) (scratch_value z ws f)) lowest
              ∙ ap (λ (v : Value). multiply_images z.l t.held (axis_word id t) v rest) (sym c.value);
          held = axis_behind k.held c.words;
          qubits = (split h).1;
        };
  }

pub letters_end : {z : Shape} {id j w e : ℕ} {ws₀ ws xs : List ℕ} {f : ℕ} {qs : List ℕ} → LettersLoop z id j w e ws₀ ws xs f qs → qs ≡ []
    → (t : Touched) → LettersAt z id j w e ws₀ xs t → LettersTimes z id e ws₀ t (set_bits 64 (64 * j) w) ws f
unfolding multiply_images
letters_end {z} {id} {ws = ws} {f = f} b e t h = record {
  small = b.phase;
  value = sym ((b.at t h).whole ∙ ap (multiply_images z.l t.held (axis_word id t) (scratch_value z ws f)) e);
  words = b.words;
}

-- ---- the whole word

pub record CarryAt (z : Shape) (id : ℕ) (ws xs : List ℕ) (t : Touched) : Type 0 where
  pub held : AxisHeld z id ws xs t
  pub inside : Inside z.l z.qubits (axis_word id t)

-- the scratch word is the image of the axis's word, and the answer its phase
pub record WordCarried (z : Shape) (id : ℕ) (ws : List ℕ) (t : Touched) (ws' : List ℕ) (r : ℕ) : Type 0 where
  pub small : r < 4
  pub value : scratch_value z ws' r ≡ word_image z.l t.held (axis_word id t)
  pub words : OnlyWords z.limit (mask_place z) ws ws'

-- the numbers from the j-th on are still to be gone through
pub record WordNow (z : Shape) (id : ℕ) (ws₀ ws xs : List ℕ) (f j : ℕ) (t : Touched) : Type 0 where
  pub whole : multiply_images z.l t.held (axis_word id t) (scratch_value z ws₀ 0) (support z.l (axis_word id t))
      ≡ multiply_images z.l t.held (axis_word id t) (scratch_value z ws f) (qubits_from z.l (axis_word id t) j (z.l - j))
  pub held : AxisHeld z id ws xs t

pub record WordLoop (z : Shape) (id : ℕ) (ws₀ ws xs : List ℕ) (f j : ℕ) : Type 0 where
  pub index : j ≤ z.l
  pub phase : f < 4
  pub words : OnlyWords z.limit (mask_place z) ws₀ ws
  pub at : (t : Touched) → CarryAt z id ws₀ xs t → WordNow z id ws₀ ws xs f j t

pub carry_granted : {z : Shape} {id : ℕ} {ws xs : List ℕ} {t : Touched} → CarryAt z id ws xs t → Granted z ws xs
carry_granted h = h.held.at.granted

pub carry_axis : {z : Shape} {id : ℕ} {ws xs : List ℕ} {t : Touched} → CarryAt z id ws xs t → axis_place z.l id + 2 * z.l ≤ z.limit
carry_axis h = axis_in h.held.at.holds h.held.id_in

pub word_first : {z : Shape} {id : ℕ} {ws xs : List ℕ} → WordLoop z id ws ws xs 0 0
word_first {z} {id} {ws} = record {
  index = omega arith;
  phase = omega arith;
  words = words_none _ _ ws;
  at = λ t h. record {
    whole =
        ap (multiply_images z.l t.held (axis_word id t) (scratch_value z ws 0)) (support_from z.l (axis_word id t)
        ∙ ap (qubits_from z.l (axis_word id t) 0) (let g : z.l ≡ z.l - 0 = omega arith in g));
    held = h.held;
  };
}

module _ {z : Shape} {id : ℕ} {ws₀ ws xs : List ℕ} {f j a : ℕ} (b : WordLoop z id ws₀ ws xs f j) (place : a ≡ axis_place z.l id) where
  pub word_there : SomeTouched (λ (t : Touched). CarryAt z id ws₀ xs t) → a + 2 * z.l ≤ length ws
  word_there s = omega (arith, carry_axis s.it, (carry_granted s.it).words_long, b.words.long)

  module _ {w : ℕ} (more : j < z.l) (read : w ≡ bit_or (get_or ws (a + j) 0) (get_or ws (a + (z.l + j)) 0)) where
    module _ {t : Touched} (h : CarryAt z id ws₀ xs t) where
      these : set_bits 64 (64 * j) w ≡ qubits_at z.l (axis_word id t) j
      unfolding qubits_at
      these =
          let k = b.at t h in
          ap (set_bits 64 (64 * j)) (axis_number k.held.at.holds k.held.id_in a w j more place read)

      acted : Every (Acted z id t) (set_bits 64 (64 * j) w)
      acted =
          subst (Every (Acted z id t)) (sym these) (support_number (Acted z id t) z.l (axis_word id t) j more
          (support_all z.l (axis_word id t) (Acted z id t)
          (λ q c d. (inside_acts h.inside q c d, acts_letter z.l (axis_word id t) q d))))

      pub letters_there : LettersAt z id j w f ws xs t
      letters_there = record { held = (b.at t h).held; number = more; qubits = acted; small = b.phase }

    pub word_turn : SomeTouched (λ (t : Touched). CarryAt z id ws₀ xs t) → SomeTouched (λ (t : Touched). LettersAt z id j w f ws xs t)
    word_turn s = record { state = s.state; it = letters_there s.it }

    pub word_next : {ws' : List ℕ} {r : ℕ} → SomeTouched (λ (t : Touched). CarryAt z id ws₀ xs t)
        → ((t : Touched) → LettersAt z id j w f ws xs t → LettersTimes z id f ws t (set_bits 64 (64 * j) w) ws' r)
        → WordLoop z id ws₀ ws' xs r (j + 1)
    word_next {ws'} {r} s call = record {
      index = omega arith;
      phase = (call s.state (letters_there s.it)).small;
      words = words_then b.words (call s.state (letters_there s.it)).words;
      at = λ t h.
          let k = b.at t h in
          let c = call t (letters_there h) in
          let e : z.l - j ≡ suc (z.l - (j + 1)) = omega arith in
          let g : suc j ≡ j + 1 = omega arith in
          record {
            whole =
                k.whole
                ∙ ap (multiply_images z.l t.held (axis_word id t) (scratch_value z ws f)) (ap (qubits_from z.l (axis_word id t) j) e
                ∙ qubits_next z.l (axis_word id t) j (z.l - (j + 1))
                ∙ ap₂ (λ (xs : List ℕ) (i : ℕ). xs ++ qubits_from z.l (axis_word id t) i (z.l - (j + 1))) (sym (these h)) g)
                ∙ multiply_images_append z.l t.held (axis_word id t) (scratch_value z ws f) (set_bits 64 (64 * j) w) _
                ∙ ap (λ (v : Value). multiply_images z.l t.held (axis_word id t) v
                (qubits_from z.l (axis_word id t) (j + 1) (z.l - (j + 1))))
                (sym c.value);
            held = axis_behind k.held c.words;
          };
    }

pub word_end : {z : Shape} {id : ℕ} {ws₀ ws xs : List ℕ} {f j : ℕ} → WordLoop z id ws₀ ws xs f j → z.l ≤ j
    → (t : Touched) → CarryAt z id ws₀ xs t → LettersTimes z id 0 ws₀ t (support z.l (axis_word id t)) ws f
unfolding multiply_images
word_end {z} {id} {ws = ws} {f = f} {j} b e t h = record {
  small = b.phase;
  value =
      let none : z.l - j ≡ 0 = omega arith in
      sym ((b.at t h).whole
      ∙ ap (λ (x : ℕ). multiply_images z.l t.held (axis_word id t) (scratch_value z ws f) (qubits_from z.l (axis_word id t) j x)) none
      ∙ ap (multiply_images z.l t.held (axis_word id t) (scratch_value z ws f)) (qubits_end z.l (axis_word id t) j));
  words = b.words;
}

-- from the identity on
module _ {z : Shape} {id o : ℕ} {ws ws₁ xs : List ℕ} {t : Touched} (h : CarryAt z id ws xs t) (scratch : o ≡ scratch_place z.limit)
    (zeros : ws₁ ≡ put ws o (replicate (2 * z.l) 0)) where
  zeros_long : length {A = ℕ} (replicate (2 * z.l) 0) ≡ 2 * z.l
  zeros_long = length-replicate (2 * z.l) 0

  zeros_words : OnlyWords z.limit (mask_place z) ws ws₁
  zeros_words =
      rw (zeros, scratch) (words_put z.limit (mask_place z) ws z.limit _ (omega arith) (omega (arith, zeros_long))
      (omega (arith, zeros_long, (carry_granted h).words_long)))

  blank : scratch_value z ws₁ 0 ≡ as_value (identity z.l)
  unfolding scratch_value
  blank =
      value_eq refl (ap (λ (x : List ℕ). word_at z.l x (scratch_place z.limit)) zeros
      ∙ ap (λ (x : ℕ). word_at z.l (put ws x (replicate (2 * z.l) 0)) (scratch_place z.limit)) scratch
      ∙ part_put_same ws z.limit (2 * z.l) (replicate (2 * z.l) 0) (omega (arith, (carry_granted h).words_long)) zeros_long)

  pub zeros_carry : CarryAt z id ws₁ xs t
  zeros_carry = record { held = axis_behind h.held zeros_words; inside = h.inside }

  pub zeros_carried : {ws₂ : List ℕ} {r : ℕ} → LettersTimes z id 0 ws₁ t (support z.l (axis_word id t)) ws₂ r
      → WordCarried z id ws t ws₂ r
  unfolding word_image
  zeros_carried k = record {
    small = k.small;
    value = k.value ∙ ap (λ (v : Value). multiply_images z.l t.held (axis_word id t) v (support z.l (axis_word id t))) blank;
    words = words_then zeros_words k.words;
  }

pub zeros_some : {z : Shape} {id o : ℕ} {ws ws₁ xs : List ℕ} → SomeTouched (λ (t : Touched). CarryAt z id ws xs t)
    → o ≡ scratch_place z.limit → ws₁ ≡ put ws o (replicate (2 * z.l) 0) → SomeTouched (λ (t : Touched). CarryAt z id ws₁ xs t)
zeros_some s e f = record { state = s.state; it = zeros_carry s.it e f }
