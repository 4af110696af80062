-- 01, "words.rs" and "Listing program": the letters of a word, I X Y Z = 0 to 3. Assumes nothing.
use Rattle.std.specs.Prelude.{List, ℕ, zero, suc, ◌+◌, ◌*◌, ◌/◌, ◌%◌, ◌^◌, set}
use Rattle.bits.specs.Bit.{bit}
use Rattle.bits.specs.Sum.{sum_to}
use Rattle.pauli.specs.Word.{x_word, z_word, identity}

-- "qubit q is bit q mod 64 of word q div 64"
abbrev pub x_bit : List ℕ → ℕ → ℕ
x_bit p q = bit (x_word p (q / 64)) (q % 64)

abbrev pub z_bit : ℕ → List ℕ → ℕ → ℕ
z_bit l p q = bit (z_word l p (q / 64)) (q % 64)

-- "X has x, Z has z, Y both": the letter of two bits, and the bits of a letter
abbrev pub letter_of : ℕ → ℕ → ℕ
letter_of zero zero = 0
letter_of zero (suc z) = 3
letter_of (suc x) zero = 1
letter_of (suc x) (suc z) = 2

unfoldable pub has_x : ℕ → ℕ
has_x zero = 0
has_x (suc zero) = 1
has_x (suc (suc zero)) = 1
has_x (suc (suc (suc c))) = 0

unfoldable pub has_z : ℕ → ℕ
has_z zero = 0
has_z (suc zero) = 0
has_z (suc (suc c)) = 1

abbrev pub letter_at : ℕ → List ℕ → ℕ → ℕ
letter_at l p q = letter_of (x_bit p q) (z_bit l p q)

-- the word with letter c at qubit q and I elsewhere
unfoldable pub single : ℕ → ℕ → ℕ → List ℕ
single l q c = set (set (identity l) (q / 64) (has_x c * 2 ^ (q % 64))) (l + q / 64) (has_z c * 2 ^ (q % 64))

-- 1 for a letter other than I
abbrev pub other : ℕ → ℕ
other zero = 0
other (suc c) = 1

-- 1 where the word has a letter other than I at qubit q
abbrev pub acts : ℕ → List ℕ → ℕ → ℕ
acts l p q = other (letter_at l p q)

-- "weights, the letters other than I"
unfoldable pub weight : ℕ → List ℕ → ℕ
weight l p = sum_to (acts l p) (64 * l)
