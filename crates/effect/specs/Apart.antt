-- Words with no qubit in common commute, and their product has no phase; a word is the product of its letters. Assumes nothing.
use Rattle.std.specs.Prelude.{◌≡◌, refl, ◌⊎◌, List, ℕ, zero, suc, ◌+◌, ◌*◌, ◌/◌, ◌%◌, ◌≤◌, ◌<◌, min}
use Rattle.std.proofs.Common.{sym, ◌∙◌, ap, ap₂, inl, inr, ⊎_elim, arith}
use Rattle.std.proofs.Math.Decide.{ℕ_discrete}
use Rattle.std.specs.Int.Bits.{bit_and}
use Rattle.bits.specs.Remainder.{same4, lt_or_ge}
use Rattle.bits.specs.Digit.{Digit, off, on}
use Rattle.bits.specs.Bit.{bit, bit_digit, bit_bit_and, bit_ext, bit_high, zero_bit}
use Rattle.bits.specs.Sum.{sum_to}
use Rattle.pauli.specs.Word.{x_word, z_word, IsWord, identity, ν, cross, xor_words, phase, symplectic}
use Rattle.pauli.specs.Letter.{letter_of, letter_at, single}
use Rattle.pauli.specs.ProductLaws.{common_none, phase_odd}
use Rattle.pauli.specs.LetterLaws.{letter_mul, letter_xor, letters_ext, is_y, ν-letters, xor_words_word, identity_word, identity_letter}
use Rattle.pauli.specs.LetterLaws.{single_letter, single_elsewhere, single_word, from_letters, from_letters_word, from_letters_letter}

-- at each qubit one of the two has the letter I
abbrev pub Apart : ℕ → List ℕ → List ℕ → Type 0
Apart l p q = (i : ℕ) → i < 64 * l → (letter_at l p i ≡ 0) ⊎ (letter_at l q i ≡ 0)

-- ---- ν of the product

sum_both : (f g h : ℕ → ℕ) (n : ℕ) → ((i : ℕ) → i < n → h i ≡ f i + g i) → sum_to h n ≡ sum_to f n + sum_to g n
unfolding sum_to
sum_both f g h zero e = refl
sum_both f g h (suc n) e = omega (arith, sum_both f g h n (λ i b. e i (omega arith)), e n (omega arith))

is_y_mul : (a b : ℕ) → (a ≡ 0) ⊎ (b ≡ 0) → is_y (letter_mul a b) ≡ is_y a + is_y b
is_y_mul a b (inl e) = rw e (omega arith)
is_y_mul a b (inr e) = rw e (right a)
  where
    right : (a : ℕ) → is_y (letter_mul a 0) ≡ is_y a + 0
    right zero = refl
    right (suc a) = omega arith

ν-apart : (l : ℕ) (p q : List ℕ) → IsWord l p → IsWord l q → Apart l p q → ν l (xor_words p q) ≡ ν l p + ν l q
ν-apart l p q wp wq h =
    ν-letters l (xor_words p q) (xor_words_word l p q wp wq)
    ∙ sum_both (λ i. is_y (letter_at l p i)) (λ i. is_y (letter_at l q i)) (λ i. is_y (letter_at l (xor_words p q) i)) (64 * l)
    (λ i b. ap is_y (letter_xor l p q i) ∙ is_y_mul (letter_at l p i) (letter_at l q i) (h i b))
    ∙ sym (ap₂ (λ (a b : ℕ). a + b) (ν-letters l p wp) (ν-letters l q wq))

-- ---- no z of the one meets an x of the other

letter_none : {x z : ℕ} → Digit x → Digit z → letter_of x z ≡ 0 → (x ≡ 0) × (z ≡ 0)
letter_none off off h = (refl, refl)
letter_none off on h = absurd (omega arith)
letter_none on off h = absurd (omega arith)
letter_none on on h = absurd (omega arith)

min_none : (a b : ℕ) → (a ≡ 0) ⊎ (b ≡ 0) → min a b ≡ 0
min_none a b (inl e) = omega arith
min_none a b (inr e) = omega arith

cross_apart : (l : ℕ) (p q : List ℕ) → IsWord l p → IsWord l q → Apart l p q → cross l p q ≡ 0
cross_apart l p q wp wq h =
    common_none (z_word l p) (x_word q) l (λ j b. bit_ext (bit_and (z_word l p j) (x_word q j)) 0 (λ t. at j b t ∙ sym (zero_bit t)))
  where
    inside : (j t : ℕ) → j < l → t < 64 → min (bit (z_word l p j) t) (bit (x_word q j) t) ≡ 0
    inside j t b c =
        let d : (64 * j + t) / 64 ≡ j = omega arith in
        let m : (64 * j + t) % 64 ≡ t = omega arith in
        min_none (bit (z_word l p j) t) (bit (x_word q j) t)
        (⊎_elim
        (λ (e : letter_at l p (64 * j + t) ≡ 0). inl (letter_none (bit_digit (x_word p j) t) (bit_digit (z_word l p j) t) (simp (d, m) at e)).1)
        (λ (e : letter_at l q (64 * j + t) ≡ 0). inr (letter_none (bit_digit (x_word q j) t) (bit_digit (z_word l q j) t) (simp (d, m) at e)).0)
        (h (64 * j + t) (omega arith)))

    at : (j : ℕ) → j < l → (t : ℕ) → bit (bit_and (z_word l p j) (x_word q j)) t ≡ 0
    at j b t =
        bit_bit_and (z_word l p j) (x_word q j) t
        ∙ ⊎_elim
        (λ (c : t < 64). inside j t b c)
        (λ (c : 64 ≤ t). min_none (bit (z_word l p j) t) (bit (x_word q j) t) (inr (bit_high (x_word q j) 64 t (wq.fits j) c)))
        (lt_or_ge t 64)

pub phase_apart : (l : ℕ) (p q : List ℕ) → IsWord l p → IsWord l q → Apart l p q → phase l p q ≡ 0
unfolding phase
phase_apart l p q wp wq h = same4 _ 0 0 (ν l p + ν l q) (omega (arith, ν-apart l p q wp wq h, cross_apart l p q wp wq h))

pub symplectic_apart : (l : ℕ) (p q : List ℕ) → IsWord l p → IsWord l q → Apart l p q → symplectic l p q ≡ 0
symplectic_apart l p q wp wq h = sym (phase_odd l p q) ∙ ap (λ (e : ℕ). e % 2) (phase_apart l p q wp wq h)

-- ---- one letter

pub single_apart : (l : ℕ) (p : List ℕ) (q c : ℕ) → q < 64 * l → letter_at l p q ≡ 0 → Apart l p (single l q c)
single_apart l p q c b h i d = go (ℕ_discrete i q)
  where
    go : Dec (i ≡ q) → (letter_at l p i ≡ 0) ⊎ (letter_at l (single l q c) i ≡ 0)
    go (yes e) = inl (ap (letter_at l p) e ∙ h)
    go (no n) = inr (single_elsewhere l q c b i d n)

-- the letter I on a qubit is the identity
pub single_none : (l q : ℕ) → q < 64 * l → single l q 0 ≡ identity l
single_none l q b =
    letters_ext l (single l q 0) (identity l) (single_word l q 0 b) (identity_word l)
    (λ i d. go i d (ℕ_discrete i q) ∙ sym (identity_letter l i))
  where
    go : (i : ℕ) → i < 64 * l → Dec (i ≡ q) → letter_at l (single l q 0) i ≡ 0
    go i d (yes e) = ap (letter_at l (single l q 0)) e ∙ single_letter l q 0 b (omega arith)
    go i d (no n) = single_elsewhere l q 0 b i d n

-- ---- a word from its letters

letter_lt : {x z : ℕ} → Digit x → Digit z → letter_of x z < 4
letter_lt off off = omega arith
letter_lt off on = omega arith
letter_lt on off = omega arith
letter_lt on on = omega arith

pub letter_at_lt : (l : ℕ) (p : List ℕ) (i : ℕ) → letter_at l p i < 4
letter_at_lt l p i = letter_lt (bit_digit (x_word p (i / 64)) (i % 64)) (bit_digit (z_word l p (i / 64)) (i % 64))

pub from_letters_own : (l : ℕ) (w : List ℕ) → IsWord l w → from_letters l (letter_at l w) (64 * l) ≡ w
from_letters_own l w h =
    letters_ext l (from_letters l (letter_at l w) (64 * l)) w (from_letters_word l (letter_at l w) (64 * l) (omega arith)) h
    (λ i b. from_letters_letter l (letter_at l w) (64 * l) i b (omega arith) (letter_at_lt l w i))

-- the qubits that are not reached yet
pub from_letters_beyond : (l : ℕ) (f : ℕ → ℕ) (n i : ℕ) → n ≤ i → i < 64 * l → letter_at l (from_letters l f n) i ≡ 0
unfolding from_letters
from_letters_beyond l f zero i h b = identity_letter l i
from_letters_beyond l f (suc n) i h b =
    letter_xor l (from_letters l f n) (single l n (f n)) i
    ∙ ap₂ letter_mul (from_letters_beyond l f n i (omega arith) b) (single_elsewhere l n (f n) (omega arith) i b (omega arith))

-- the next letter is multiplied without a phase
pub next_letter : (l : ℕ) (f : ℕ → ℕ) (n : ℕ) → n < 64 * l → phase l (from_letters l f n) (single l n (f n)) ≡ 0
next_letter l f n b =
    phase_apart l (from_letters l f n) (single l n (f n)) (from_letters_word l f n (omega arith)) (single_word l n (f n) b)
    (single_apart l (from_letters l f n) n (f n) b (from_letters_beyond l f n n (omega arith) b))
