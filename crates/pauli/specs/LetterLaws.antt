-- Letters and words determine each other; the letters of a product, of one letter, and their counts. Assumes nothing.
use Rattle.std.specs.Prelude.{◌≡◌, refl, List, length, get_or, set}
use Rattle.std.proofs.Common.{sym, ap, ◌∙◌, zero-mul, one-mul, eq-or-lt_of_le, arith, pow_mono, ext_get_or}
use Rattle.std.proofs.Math.Path.{ap₂}
use Rattle.std.proofs.Math.Logic.{⊎_elim}
use Prim.Native.Nat.{ℕ, zero, suc, ◌+◌, ◌-◌, ◌*◌, ◌/◌, ◌%◌, ◌^◌, ◌≤◌, ◌<◌, min, max}
use Rattle.std.proofs.Math.Decide.{ℕ_discrete}
use Rattle.std.specs.Int.Bits.{bit_and, bit_or, differ, and_lt}
use Rattle.std.proofs.lemmas.Nat.{xor_lt}
use Rattle.std.proofs.Math.ListN.{length-set}
use Rattle.std.proofs.lemmas.List.{length-replicate}
use Rattle.std.proofs.Math.Seq.{get_or-set_same, get_or-set_other}
use Rattle.bits.specs.Remainder.{lt_or_ge}
use Rattle.bits.specs.Digit.{Digit, off, on}
use Rattle.bits.specs.Bit.{bit, bit_digit, bit_bit_xor, bit_bit_and, bit_bit_or, bit_ext, bit_high, zero_bit, pow_bit, pow_other}
use Rattle.bits.specs.Sum.{sum_to, sum_cong, sum_add}
use Rattle.bits.specs.Popcount.{popcount, popcount_bits}
use Rattle.pauli.specs.Word.{width, x_word, z_word, IsWord, identity, common, ν, xor_words}
use Rattle.pauli.specs.Letter.{letter_of, has_x, has_z, letter_at, single, other, acts}
use Rattle.pauli.specs.ProductLaws.{zeros_at, xor_words_at, xor_words_length}

-- the qubits have their bits
pub width_holds : (q : ℕ) → q ≤ 64 * width q
unfolding width
width_holds q = omega arith

-- qubit 64 j + t is bit t of word j
place_div : (j t : ℕ) → t < 64 → (64 * j + t) / 64 ≡ j
place_div j t h = omega arith

place_mod : (j t : ℕ) → t < 64 → (64 * j + t) % 64 ≡ t
place_mod j t h = omega arith

-- ---- a word is its letters

letter_bits : {x z x' z' : ℕ} → Digit x → Digit z → Digit x' → Digit z' → letter_of x z ≡ letter_of x' z'
    → (x ≡ x') × (z ≡ z')
letter_bits off off off off h = (refl, refl)
letter_bits off on off on h = (refl, refl)
letter_bits on off on off h = (refl, refl)
letter_bits on on on on h = (refl, refl)
letter_bits off off off on h = absurd (omega arith)
letter_bits off off on off h = absurd (omega arith)
letter_bits off off on on h = absurd (omega arith)
letter_bits off on off off h = absurd (omega arith)
letter_bits off on on off h = absurd (omega arith)
letter_bits off on on on h = absurd (omega arith)
letter_bits on off off off h = absurd (omega arith)
letter_bits on off off on h = absurd (omega arith)
letter_bits on off on on h = absurd (omega arith)
letter_bits on on off off h = absurd (omega arith)
letter_bits on on off on h = absurd (omega arith)
letter_bits on on on off h = absurd (omega arith)

same_bits : (a b : ℕ) → a < 2 ^ 64 → b < 2 ^ 64 → ((t : ℕ) → t < 64 → bit a t ≡ bit b t) → a ≡ b
same_bits a b ha hb h =
    bit_ext a b (λ t. ⊎_elim (λ (lt : t < 64). h t lt) (λ (ge : 64 ≤ t). bit_high a 64 t ha ge ∙ sym (bit_high b 64 t hb ge)) (lt_or_ge t 64))

pub letters_ext : (l : ℕ) (p q : List ℕ) → IsWord l p → IsWord l q → ((i : ℕ) → i < 64 * l → letter_at l p i ≡ letter_at l q i) → p ≡ q
letters_ext l p q wp wq h =
    ext_get_or 0 p q (wp.long ∙ sym wq.long) (λ j b. ⊎_elim
    (λ (lt : j < l). same_bits _ _ (wp.fits j) (wq.fits j) (λ t u. (both j t lt u).0))
    (λ (ge : l ≤ j).
    let e : l + (j - l) ≡ j = omega arith in
    rw e at (same_bits _ _ (wp.fits (l + (j - l))) (wq.fits (l + (j - l))) (λ t u. (both (j - l) t (omega (arith, wp.long)) u).1)))
    (lt_or_ge j l))
  where
    both : (j t : ℕ) → j < l → t < 64 → (bit (x_word p j) t ≡ bit (x_word q j) t) × (bit (z_word l p j) t ≡ bit (z_word l q j) t)
    both j t hj ht =
        letter_bits (bit_digit _ t) (bit_digit _ t) (bit_digit _ t) (bit_digit _ t)
        (simp (place_div j t ht, place_mod j t ht) at (h (64 * j + t) (omega arith)))

-- ---- the letters of a product multiply as the four-group does

abbrev pub letter_mul : ℕ → ℕ → ℕ
letter_mul zero b = b
letter_mul (suc a) zero = suc a
letter_mul (suc zero) (suc zero) = 0
letter_mul (suc zero) (suc (suc zero)) = 3
letter_mul (suc zero) (suc (suc (suc b))) = 2
letter_mul (suc (suc zero)) (suc zero) = 3
letter_mul (suc (suc zero)) (suc (suc zero)) = 0
letter_mul (suc (suc zero)) (suc (suc (suc b))) = 1
letter_mul (suc (suc (suc a))) (suc zero) = 2
letter_mul (suc (suc (suc a))) (suc (suc zero)) = 1
letter_mul (suc (suc (suc a))) (suc (suc (suc b))) = 0

mul_table : {x z x' z' : ℕ} → Digit x → Digit z → Digit x' → Digit z'
    → letter_of (differ x x') (differ z z') ≡ letter_mul (letter_of x z) (letter_of x' z')
mul_table off off x z = refl
mul_table off on off off = refl
mul_table off on off on = refl
mul_table off on on off = refl
mul_table off on on on = refl
mul_table on off off off = refl
mul_table on off off on = refl
mul_table on off on off = refl
mul_table on off on on = refl
mul_table on on off off = refl
mul_table on on off on = refl
mul_table on on on off = refl
mul_table on on on on = refl

pub letter_xor : (l : ℕ) (p q : List ℕ) (i : ℕ) → letter_at l (xor_words p q) i ≡ letter_mul (letter_at l p i) (letter_at l q i)
letter_xor l p q i =
    let t = i % 64 in
    let plane : (k : ℕ) → bit (get_or (xor_words p q) k 0) t ≡ differ (bit (get_or p k 0) t) (bit (get_or q k 0) t) =
    λ k. ap (λ (w : ℕ). bit w t) (xor_words_at p q k) ∙ bit_bit_xor _ _ t in
    ap₂ letter_of (plane (i / 64)) (plane (l + i / 64)) ∙ mul_table (bit_digit _ t) (bit_digit _ t) (bit_digit _ t) (bit_digit _ t)

-- ---- one letter

pub has_x_digit : (c : ℕ) → Digit (has_x c)
unfolding has_x
has_x_digit zero = off
has_x_digit (suc zero) = on
has_x_digit (suc (suc zero)) = on
has_x_digit (suc (suc (suc c))) = off

pub has_z_digit : (c : ℕ) → Digit (has_z c)
unfolding has_z
has_z_digit zero = off
has_z_digit (suc zero) = off
has_z_digit (suc (suc c)) = on

letter_of_bits : (c : ℕ) → c < 4 → letter_of (has_x c) (has_z c) ≡ c
unfolding has_x has_z
letter_of_bits zero h = refl
letter_of_bits (suc zero) h = refl
letter_of_bits (suc (suc zero)) h = refl
letter_of_bits (suc (suc (suc zero))) h = refl
letter_of_bits (suc (suc (suc (suc c)))) h = absurd (omega arith)

-- a digit at place t, its bits and its size
bit_at : {d : ℕ} (t : ℕ) → Digit d → bit (d * 2 ^ t) t ≡ d
bit_at t off = rw zero-mul (zero_bit t)
bit_at t on = rw one-mul (pow_bit t)

bit_off : {d : ℕ} (t i : ℕ) → Digit d → (i ≡ t → ⊥) → bit (d * 2 ^ t) i ≡ 0
bit_off t i off h = rw zero-mul (zero_bit i)
bit_off t i on h = rw one-mul (pow_other t i h)

pub digit_fits : {d : ℕ} (t : ℕ) → t < 64 → Digit d → d * 2 ^ t < 2 ^ 64
digit_fits t h off = rw zero-mul (omega arith)
digit_fits t h on = let m : 2 ^ t ≤ 2 ^ 63 = pow_mono {i = t} {j = 63} (omega arith) in rw one-mul (omega arith)

pub identity_length : (l : ℕ) → length (identity l) ≡ 2 * l
identity_length l = length-replicate {A = ℕ} (2 * l) 0

module _ (l q c : ℕ) (inside : q < 64 * l) where
  -- the number that holds q in the x-plane, and in the z-plane
  abbrev x_part : ℕ
  x_part = has_x c * 2 ^ (q % 64)

  abbrev z_part : ℕ
  z_part = has_z c * 2 ^ (q % 64)

  pub single_length : length (single l q c) ≡ 2 * l
  unfolding single
  single_length =
      length-set (set (identity l) (q / 64) (has_x c * 2 ^ (q % 64))) (l + q / 64) (has_z c * 2 ^ (q % 64))
      ∙ length-set (identity l) (q / 64) (has_x c * 2 ^ (q % 64)) ∙ identity_length l

  -- number k of the word
  single_at : (k : ℕ) → (k ≡ q / 64 → ⊥) → (k ≡ l + q / 64 → ⊥) → get_or (single l q c) k 0 ≡ 0
  unfolding single
  single_at k nx nz =
      get_or-set_other (set (identity l) (q / 64) x_part) (l + q / 64) k z_part 0 nz
      ∙ get_or-set_other (identity l) (q / 64) k x_part 0 nx ∙ zeros_at (2 * l) k

  single_x : x_word (single l q c) (q / 64) ≡ x_part
  unfolding single
  single_x =
      get_or-set_other (set (identity l) (q / 64) x_part) (l + q / 64) (q / 64) z_part 0 (omega arith)
      ∙ get_or-set_same (identity l) (q / 64) x_part 0 (omega (arith, identity_length l))

  single_z : z_word l (single l q c) (q / 64) ≡ z_part
  unfolding single
  single_z =
      get_or-set_same (set (identity l) (q / 64) x_part) (l + q / 64) z_part 0
      (omega (arith, length-set (identity l) (q / 64) x_part, identity_length l))

  pub single_letter : c < 4 → letter_at l (single l q c) q ≡ c
  single_letter b =
      ap₂ letter_of
      (ap (λ (w : ℕ). bit w (q % 64)) single_x ∙ bit_at (q % 64) (has_x_digit c))
      (ap (λ (w : ℕ). bit w (q % 64)) single_z ∙ bit_at (q % 64) (has_z_digit c))
      ∙ letter_of_bits c b

  pub single_elsewhere : (i : ℕ) → i < 64 * l → (i ≡ q → ⊥) → letter_at l (single l q c) i ≡ 0
  single_elsewhere i b n = go (ℕ_discrete (i / 64) (q / 64))
    where
      go : Dec (i / 64 ≡ q / 64) → letter_at l (single l q c) i ≡ 0
      go (yes e) =
          let apart : i % 64 ≡ q % 64 → ⊥ = λ m. n (omega arith) in
          ap₂ letter_of
          (ap (λ (j : ℕ). bit (x_word (single l q c) j) (i % 64)) e ∙ ap (λ (w : ℕ). bit w (i % 64)) single_x
          ∙ bit_off (q % 64) (i % 64) (has_x_digit c) apart)
          (ap (λ (j : ℕ). bit (z_word l (single l q c) j) (i % 64)) e ∙ ap (λ (w : ℕ). bit w (i % 64)) single_z
          ∙ bit_off (q % 64) (i % 64) (has_z_digit c) apart)
      go (no d) =
          ap₂ letter_of
          (ap (λ (w : ℕ). bit w (i % 64)) (single_at (i / 64) d (omega arith)) ∙ zero_bit (i % 64))
          (ap (λ (w : ℕ). bit w (i % 64)) (single_at (l + i / 64) (omega arith) (λ m. d (omega arith))) ∙ zero_bit (i % 64))

  pub single_word : IsWord l (single l q c)
  single_word = record { long = single_length; fits = λ j. go j (ℕ_discrete j (q / 64)) (ℕ_discrete j (l + q / 64)) }
    where
      go : (j : ℕ) → Dec (j ≡ q / 64) → Dec (j ≡ l + q / 64) → get_or (single l q c) j 0 < 2 ^ 64
      go j (yes e) d = rw (e, single_x) (digit_fits (q % 64) (omega arith) (has_x_digit c))
      go j (no n) (yes e) = rw (e, single_z) (digit_fits (q % 64) (omega arith) (has_z_digit c))
      go j (no n) (no m) = rw (single_at j n m) (omega arith)

-- ---- every choice of letters is the letters of a word

pub xor_words_word : (l : ℕ) (p q : List ℕ) → IsWord l p → IsWord l q → IsWord l (xor_words p q)
xor_words_word l p q a b = record {
  long = xor_words_length p q (a.long ∙ sym b.long) ∙ a.long;
  fits = λ j. rw (xor_words_at p q j) (xor_lt 64 _ _ (a.fits j) (b.fits j));
}

pub identity_word : (l : ℕ) → IsWord l (identity l)
identity_word l = record { long = identity_length l; fits = λ j. rw (zeros_at (2 * l) j) (omega arith) }

pub identity_letter : (l i : ℕ) → letter_at l (identity l) i ≡ 0
identity_letter l i =
    ap₂ letter_of
    (ap (λ (w : ℕ). bit w (i % 64)) (zeros_at (2 * l) (i / 64)) ∙ zero_bit (i % 64))
    (ap (λ (w : ℕ). bit w (i % 64)) (zeros_at (2 * l) (l + i / 64)) ∙ zero_bit (i % 64))

-- the word with letters f at the first n qubits
unfoldable pub from_letters : ℕ → (ℕ → ℕ) → ℕ → List ℕ
from_letters l f zero = identity l
from_letters l f (suc n) = xor_words (from_letters l f n) (single l n (f n))

mul_one : (a : ℕ) → letter_mul a 0 ≡ a
mul_one zero = refl
mul_one (suc a) = refl

module _ (l : ℕ) (f : ℕ → ℕ) where
  pub from_letters_word : (n : ℕ) → n ≤ 64 * l → IsWord l (from_letters l f n)
  unfolding from_letters
  from_letters_word zero h = identity_word l
  from_letters_word (suc n) h = xor_words_word l _ _ (from_letters_word n (omega arith)) (single_word l n (f n) (omega arith))

  beyond : (n i : ℕ) → n ≤ i → i < 64 * l → letter_at l (from_letters l f n) i ≡ 0
  unfolding from_letters
  beyond zero i h b = identity_letter l i
  beyond (suc n) i h b =
      letter_xor l (from_letters l f n) (single l n (f n)) i
      ∙ ap₂ letter_mul (beyond n i (omega arith) b) (single_elsewhere l n (f n) (omega arith) i b (omega arith))

  pub from_letters_letter : (n i : ℕ) → i < n → n ≤ 64 * l → f i < 4 → letter_at l (from_letters l f n) i ≡ f i
  unfolding from_letters
  from_letters_letter zero i h b g = absurd (omega arith)
  from_letters_letter (suc n) i h b g =
      letter_xor l (from_letters l f n) (single l n (f n)) i
      ∙ ⊎_elim
      (λ (e : i ≡ n). rw e (ap₂ letter_mul (beyond n n (omega arith) (omega arith)) (single_letter l n (f n) (omega arith) (rw e at g))))
      (λ (m : i < n).
      ap₂ letter_mul (from_letters_letter n i m (omega arith) g) (single_elsewhere l n (f n) (omega arith) i (omega arith) (omega arith))
      ∙ mul_one (f i))
      (eq-or-lt_of_le {n = i} {m = n} (omega arith))

-- ---- counts of letters

other_table : {x z : ℕ} → Digit x → Digit z → other (letter_of x z) ≡ max x z
other_table off off = refl
other_table off on = refl
other_table on off = refl
other_table on on = refl

-- a letter other than I is a bit in either plane
pub acts_bit : (l : ℕ) (p : List ℕ) (j t : ℕ) → t < 64 → acts l p (64 * j + t) ≡ bit (bit_or (x_word p j) (z_word l p j)) t
acts_bit l p j t h =
    rw (place_div j t h, place_mod j t h)
    (other_table (bit_digit _ t) (bit_digit _ t) ∙ sym (bit_bit_or (x_word p j) (z_word l p j) t))

-- a word more of each plane
pub weight_more : (l : ℕ) (p : List ℕ) (j : ℕ) → bit_or (x_word p j) (z_word l p j) < 2 ^ 64
    → sum_to (acts l p) (64 * (j + 1)) ≡ sum_to (acts l p) (64 * j) + popcount (bit_or (x_word p j) (z_word l p j))
weight_more l p j h =
    let w = bit_or (x_word p j) (z_word l p j) in
    let e : 64 * (j + 1) ≡ 64 * j + 64 = omega arith in
    rw (e, sum_add (acts l p) (64 * j) 64)
    (ap (λ (n : ℕ). sum_to (acts l p) (64 * j) + n)
    (sum_cong (λ t. acts l p (64 * j + t)) (bit w) 64 (λ t b. acts_bit l p j t b) ∙ sym (popcount_bits 64 w h)))

-- common bits, qubit by qubit
common_bits : (f g : ℕ → ℕ) (l : ℕ) → ((j : ℕ) → f j < 2 ^ 64) → ((j : ℕ) → g j < 2 ^ 64)
    → common f g l ≡ sum_to (λ q. min (bit (f (q / 64)) (q % 64)) (bit (g (q / 64)) (q % 64))) (64 * l)
unfolding common sum_to
common_bits f g zero hf hg = refl
common_bits f g (suc l) hf hg =
    let F : ℕ → ℕ = λ q. min (bit (f (q / 64)) (q % 64)) (bit (g (q / 64)) (q % 64)) in
    let e : 64 * suc l ≡ 64 * l + 64 = omega arith in
    rw (e, sum_add F (64 * l) 64)
    (ap₂ (λ (a b : ℕ). a + b) (common_bits f g l hf hg)
    (popcount_bits 64 (bit_and (f l) (g l)) (and_lt 64 (f l) (g l) (hf l) (hg l))
    ∙ sum_cong (bit (bit_and (f l) (g l))) (λ t. F (64 * l + t)) 64
    (λ t u. bit_bit_and (f l) (g l) t ∙ simp (place_div l t u, place_mod l t u))))

-- ν is the count of the letter Y
abbrev pub is_y : ℕ → ℕ
is_y zero = 0
is_y (suc zero) = 0
is_y (suc (suc zero)) = 1
is_y (suc (suc (suc n))) = 0

y_table : {x z : ℕ} → Digit x → Digit z → min x z ≡ is_y (letter_of x z)
y_table off off = refl
y_table off on = refl
y_table on off = refl
y_table on on = refl

pub ν-letters : (l : ℕ) (p : List ℕ) → IsWord l p → ν l p ≡ sum_to (λ q. is_y (letter_at l p q)) (64 * l)
ν-letters l p w =
    common_bits (x_word p) (z_word l p) l w.fits (λ j. w.fits (l + j))
    ∙ sum_cong _ _ (64 * l) (λ q b. y_table (bit_digit _ (q % 64)) (bit_digit _ (q % 64)))
