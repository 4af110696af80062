-- Images change as angle k about a word is absorbed: as the model's `absorbImage` has it. Assumes nothing.
use Rattle.std.specs.Prelude.{◌≡◌, refl, List, ◌⊎◌, ◌≢◌, false, ℕ, ◌+◌, ◌*◌, ◌/◌, ◌%◌, ◌≤◌, ◌<◌, ◌-◌, length, get_or, Option, Some, None}
use Rattle.std.proofs.Common.{subst, sym, ap, ap₂, ◌∙◌, inl, inr, arith, eq-eqb, ne_eqb}
use Rattle.std.proofs.Math.Bool.{not}
use Rattle.std.proofs.Math.Decide.{ℕ_discrete, dec_lt}
use Rattle.store.specs.Part.{put, part_length}
use Rattle.store.specs.Row.{row, Written}
use Rattle.pauli.specs.Word.{anticommutes, xor_words, phase}
use Rattle.pauli.specs.ProductLaws.{xor_words_length}
use Rattle.angle.specs.declared.Phase.{Phase}
use Rattle.product.specs.Product.{odd_phase, told_commute, told_anticommute, told_phase, StoredPre, StoredWord}
use Rattle.model.specs.Words.{Value, as_value, scaled, multiply}
use Rattle.model.specs.Clifford.{absorb_image}
use Rattle.theory.specs.Cases.{if_true, if_false}
use Rattle.layout.specs.declared.Shape.{Shape}
use Rattle.layout.specs.Rows.{f_phase, row_count}
use Rattle.layout.specs.Only.{Only, only_none, only_then}
use Rattle.layout.specs.Words.{slot_place, slot_ends, slots_le, slot_in, OnlyWords, words_none, words_then, words_in, words_part}
use Rattle.layout.specs.Words.{slot_behind}
use Rattle.layout.specs.Shape.{longest_row}
use Rattle.axes.specs.View.{word_at}
use Rattle.words_wellformed.specs.HeldImages.{IsQuarters}
use Rattle.words_wellformed.specs.Conjugation.{value_eq}
use Rattle.clifford.specs.Holds.{image_in}
use Rattle.clifford.specs.Images.{ImageThere, image_rows, ImageSet, image_other, image_put, image_phase, image_stays}

-- e more quarter turns, as the code adds them
pub phase_added : {s t : List ℕ} {u i : ℕ} (e : ℕ) {old : ℕ} → old ≡ get_or (row s u f_phase) i 0 → Written s u f_phase i ((old % 4 + e) % 4) t
    → Written s u f_phase i ((get_or (row s u f_phase) i 0 + e) % 4) t
phase_added {s} {t} {u} {i} e {old} f w =
    subst (λ (v : ℕ). Written s u f_phase i v t) (let g : (old % 4 + e) % 4 ≡ (get_or (row s u f_phase) i 0 + e) % 4 = omega arith in g) w

-- ---- one image, by the word at b

pub record TurnPre (z : Shape) (i b k : ℕ) (ws xs : List ℕ) : Type 0 where
  pub there : ImageThere z i xs
  pub words_long : z.limit ≤ length ws
  pub word : b + 2 * z.l ≤ slot_place z.limit z.l i
  pub quarters : IsQuarters k

abbrev pub ImageTurned : Shape → ℕ → ℕ → ℕ → List ℕ → List ℕ → List ℕ → List ℕ → Type 0
ImageTurned z i b k ws xs ws' xs' = ImageSet z i (absorb_image z.l (word_at z.l ws b) k (image_in z ws xs i)) ws xs ws' xs'

quarter_turns : (t e f c : ℕ) → e ≡ f → ((0 + t + f) % 4 + c) % 4 ≡ (t + (e + c)) % 4
quarter_turns t e f c h = omega arith

module _ {z : Shape} {i b k : ℕ} {ws xs : List ℕ} (pre : TurnPre z i b k ws xs) where
  -- the words are there
  slot_in_words : slot_place z.limit z.l i + 2 * z.l ≤ length ws
  slot_in_words = omega (arith, slot_ends z.limit z.l i pre.there.slot, pre.words_long)

  pub turn_word : b + 2 * z.l ≤ length ws
  turn_word = omega (arith, pre.word, slot_in_words)

  pub turn_slot : {at : ℕ} → at ≡ slot_place z.limit z.l i → at + 2 * z.l ≤ length ws
  turn_slot e = omega (arith, slot_in_words)

  pub turn_stored : {at : ℕ} → at ≡ slot_place z.limit z.l i → StoredPre z.l ws b at at
  turn_stored e = record {
    p_in = turn_word;
    q_in = turn_slot e;
    o_in = turn_slot e;
    p_clear = inr (inr (omega (arith, pre.word)));
    q_clear = inl refl;
  }

  -- an image that commutes stays
  stays : anticommutes z.l (word_at z.l ws b) (image_in z ws xs i).word ≡ false → ImageTurned z i b k ws xs ws xs
  unfolding absorb_image
  stays e = rw (if_true {A = Value} _ _ (ap not e)) (image_stays z i ws xs)

  -- whether it changes is told by the phase of its product with the word at b
  module _ {r : Option Phase} {at : ℕ} (place : at ≡ slot_place z.limit z.l i)
      (told : r ≡ odd_phase z.l (word_at z.l ws b) (word_at z.l ws at)) where
    of_image : r ≡ odd_phase z.l (word_at z.l ws b) (image_in z ws xs i).word
    unfolding image_in
    of_image = rw place at told

    -- it commutes
    pub turned_not : r ≡ None → ImageTurned z i b k ws xs ws xs
    turned_not h = stays (told_commute _ _ _ of_image h)

    -- "k = 4 gives -P"
    pub turned_half : {e : Phase} {xs' : List ℕ} → r ≡ Some e → k ≡ 4
        → Written xs z.u f_phase i ((get_or (row xs z.u f_phase) i 0 + 2) % 4) xs' → ImageTurned z i b k ws xs ws xs'
    unfolding absorb_image
    turned_half o f w =
        rw (if_false {A = Value} _ _ (ap not (told_anticommute _ _ _ of_image o)), if_true {A = Value} _ _ (eq-eqb k 4 f))
        (unfold scaled image_in in (image_phase pre.there _ w))

    -- "k = 2 gives iBP, k = -2 gives -iBP"
    pub turned_quarter : {e : Phase} {ws' xs' : List ℕ} → r ≡ Some e → (k ≡ 4 → ⊥) → StoredWord z.l ws b at at ws'
        → Written xs z.u f_phase i ((get_or (row xs z.u f_phase) i 0 + (e.0 + k / 2)) % 4) xs' → ImageTurned z i b k ws xs ws' xs'
    unfolding absorb_image
    turned_quarter {e} {ws'} {xs'} o f stored w =
        rw (if_false {A = Value} _ _ (ap not (told_anticommute _ _ _ of_image o)), if_false {A = Value} _ _ (ne_eqb k 4 f))
        (subst (λ (v : Value). ImageSet z i v ws xs ws' xs') (sym value)
        (image_put pre.there _ _ pre.words_long long laid w))
      where
        laid : ws' ≡ put ws (slot_place z.limit z.l i)
            (xor_words (word_at z.l ws b) (word_at z.l ws (slot_place z.limit z.l i)))
        laid = rw place at stored

        its_phase : e.0 ≡ phase z.l (word_at z.l ws b) (word_at z.l ws (slot_place z.limit z.l i))
        its_phase = rw place at (told_phase _ _ _ told o).turns

        value : scaled (k / 2) (multiply z.l (as_value (word_at z.l ws b)) (image_in z ws xs i))
            ≡ record {
              turns = (get_or (row xs z.u f_phase) i 0 + (e.0 + k / 2)) % 4;
              word = xor_words (word_at z.l ws b) (word_at z.l ws (slot_place z.limit z.l i));
            }
        value = unfold scaled multiply image_in in (value_eq (quarter_turns _ _ _ (k / 2) its_phase) refl)

        ends : slot_place z.limit z.l i + 2 * z.l ≤ z.limit
        ends = slot_ends z.limit z.l i pre.there.slot

        b_long : length (word_at z.l ws b) ≡ 2 * z.l
        b_long = part_length ws b (2 * z.l) (omega (arith, pre.word, pre.words_long, ends))

        i_long : length (word_at z.l ws (slot_place z.limit z.l i)) ≡ 2 * z.l
        i_long = part_length ws (slot_place z.limit z.l i) (2 * z.l) (omega (arith, pre.words_long, ends))

        long : length (xor_words (word_at z.l ws b) (word_at z.l ws (slot_place z.limit z.l i))) ≡ 2 * z.l
        long = xor_words_length _ _ (b_long ∙ sym i_long) ∙ b_long

-- ---- images one after the other

-- e images, and the word at b before them
pub record TurnsPre (z : Shape) (e b k : ℕ) (ws xs : List ℕ) : Type 0 where
  pub slots : e * (2 * z.l) ≤ z.limit
  pub words_long : z.limit ≤ length ws
  pub numbers_long : row_count * z.u ≤ length xs
  pub entry : e ≤ z.u
  pub small : z.u ≤ longest_row
  pub word : b + 2 * z.l + e * (2 * z.l) ≤ z.limit
  pub quarters : IsQuarters k

-- of e images those from a up to i are changed, and no other
pub record TurnedTo (z : Shape) (a e b k : ℕ) (ws xs ws' xs' : List ℕ) (i : ℕ) : Type 0 where
  pub done : (j : ℕ) → a ≤ j → j < i → image_in z ws' xs' j ≡ absorb_image z.l (word_at z.l ws b) k (image_in z ws xs j)
  pub left : (j : ℕ) → (j < a) ⊎ (i ≤ j) → j * (2 * z.l) + 2 * z.l ≤ z.limit → image_in z ws' xs' j ≡ image_in z ws xs j
  pub words : OnlyWords (z.limit - e * (2 * z.l)) z.limit ws ws'
  pub numbers : Only image_rows z.u xs xs'

pub turned_none : {z : Shape} {a e b k : ℕ} {ws xs : List ℕ} → TurnedTo z a e b k ws xs ws xs a
turned_none {z} {ws = ws} {xs} = record {
  done = λ j h m. absurd (omega arith);
  left = λ j h m. refl;
  words = words_none _ _ ws;
  numbers = only_none _ z.u xs;
}

module _ {z : Shape} {a e b k : ℕ} {ws xs ws₁ xs₁ : List ℕ} {i : ℕ} (pre : TurnsPre z e b k ws xs)
    (to : TurnedTo z a e b k ws xs ws₁ xs₁ i) (h : i < e) where
  -- the word at b is as it was
  same_word : word_at z.l ws₁ b ≡ word_at z.l ws b
  same_word = words_part to.words b (2 * z.l) (omega (arith, pre.word, pre.words_long)) (inl (omega (arith, pre.word)))

  slot_fits : i * (2 * z.l) + 2 * z.l ≤ z.limit
  slot_fits = omega (arith, pre.slots, slots_le z.l i e h)

  pub turn_pre : TurnPre z i b k ws₁ xs₁
  turn_pre = record {
    there = record {
      slot = slot_fits;
      numbers_long = omega (arith, pre.numbers_long, to.numbers.long);
      entry = omega (arith, pre.entry);
    };
    words_long = omega (arith, pre.words_long, to.words.long);
    word = slot_behind z.limit z.l e pre.slots i _ h pre.word;
    quarters = pre.quarters;
  }

  pub turned_more : a ≤ i → {ws₂ xs₂ : List ℕ} → ImageTurned z i b k ws₁ xs₁ ws₂ xs₂ → TurnedTo z a e b k ws xs ws₂ xs₂ (i + 1)
  turned_more low {ws₂} {xs₂} t = record {
    done = λ j f m. now j (ℕ_discrete j i) f m;
    left = λ j m f. other j (away m) f ∙ to.left j (before m) f;
    words = words_then to.words (words_in _ _ (slot_behind z.limit z.l e pre.slots i _ h (omega (arith, pre.slots)))
        (slot_in z.limit z.l e pre.slots i h) t.words);
    numbers = only_then to.numbers t.numbers;
  }
    where
      away : {j : ℕ} → (j < a) ⊎ (i + 1 ≤ j) → j ≢ i
      away (inl m) = omega arith
      away (inr m) = omega arith

      before : {j : ℕ} → (j < a) ⊎ (i + 1 ≤ j) → (j < a) ⊎ (i ≤ j)
      before (inl m) = inl m
      before (inr m) = inr (omega arith)

      long : z.limit ≤ length ws₁
      long = omega (arith, pre.words_long, to.words.long)

      -- both are among so many images
      other : (j : ℕ) → j ≢ i → j * (2 * z.l) + 2 * z.l ≤ z.limit → image_in z ws₂ xs₂ j ≡ image_in z ws₁ xs₁ j
      other j ne f = go (dec_lt i j)
        where
          go : Dec (i < j) → image_in z ws₂ xs₂ j ≡ image_in z ws₁ xs₁ j
          go (yes c) = image_other t long (j + 1) j (omega arith) (omega arith) (omega arith) ne
          go (no c) = image_other t long (i + 1) j (omega (arith, slot_fits)) (omega arith) (omega arith) ne

      now : (j : ℕ) → Dec (j ≡ i) → a ≤ j → j < i + 1 → image_in z ws₂ xs₂ j ≡ absorb_image z.l (word_at z.l ws b) k (image_in z ws xs j)
      now j (yes f) g m =
          rw f (t.image ∙ ap₂ (λ (w : List ℕ) (v : Value). absorb_image z.l w k v) same_word (to.left i (inr (omega arith)) slot_fits))
      now j (no ne) g m =
          other j ne (omega (arith, slot_fits, slots_le z.l j i (let c : j < i = omega arith in c))) ∙ to.done j g (omega arith)

pub turned_all : {z : Shape} {a e b k : ℕ} {ws xs ws' xs' : List ℕ} {i : ℕ} → TurnedTo z a e b k ws xs ws' xs' i → e ≤ i → i ≤ e
    → TurnedTo z a e b k ws xs ws' xs' e
turned_all {z} {a} {e} {b} {k} {ws} {xs} {ws'} {xs'} {i} t h m =
    subst (TurnedTo z a e b k ws xs ws' xs') (let f : i ≡ e = omega arith in f) t

-- n images, all of them
pub record ImagesTurned (z : Shape) (n b k : ℕ) (ws xs ws' xs' : List ℕ) : Type 0 where
  pub done : (j : ℕ) → j < n → image_in z ws' xs' j ≡ absorb_image z.l (word_at z.l ws b) k (image_in z ws xs j)
  pub words : OnlyWords (z.limit - n * (2 * z.l)) z.limit ws ws'
  pub numbers : Only image_rows z.u xs xs'

pub all_turned : {z : Shape} {n b k : ℕ} {ws xs ws' xs' : List ℕ} → TurnedTo z 0 n b k ws xs ws' xs' n → ImagesTurned z n b k ws xs ws' xs'
all_turned t = record { done = λ j h. t.done j (omega arith) h; words = t.words; numbers = t.numbers }

-- the word's place by its other name
pub turned_at : {z : Shape} {n a b k : ℕ} {ws xs ws' xs' : List ℕ} → b ≡ a → ImagesTurned z n b k ws xs ws' xs' → ImagesTurned z n a k ws xs ws' xs'
turned_at {z} {n} {k = k} {ws} {xs} {ws'} {xs'} e t = subst (λ (x : ℕ). ImagesTurned z n x k ws xs ws' xs') e t
