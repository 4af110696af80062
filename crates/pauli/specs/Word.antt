-- 01, "words.rs": packed Pauli words and their product. Assumes nothing.
use Rattle.std.specs.Prelude.{◌≡◌, Bool, List, [], ◌∷◌, ℕ, zero, suc, ◌+◌, ◌*◌, ◌/◌, ◌%◌, ◌^◌, ◌<◌, max, eqb, length, get_or, replicate}
use Rattle.std.specs.Int.Bits.{bit_and, bit_xor}
use Rattle.bits.specs.Popcount.{popcount}
use Rattle.store.specs.Equal.{same_list}

-- "l = ceiling(qubits / 64), at least 1"
unfoldable pub width : ℕ → ℕ
width qubits = max 1 ((qubits + 63) / 64)

-- "A word has l x-words, then l z-words": word j of each plane; past the end it is 0
abbrev pub x_word : List ℕ → ℕ → ℕ
x_word p j = get_or p j 0

abbrev pub z_word : ℕ → List ℕ → ℕ → ℕ
z_word l p j = get_or p (l + j) 0

-- a list that is a word: of the right length, each number of 64 bits
pub record IsWord (l : ℕ) (p : List ℕ) : Type 0 where
  pub long : length p ≡ 2 * l
  pub fits : (j : ℕ) → get_or p j 0 < 2 ^ 64

-- the word whose letters are all I
abbrev pub identity : ℕ → List ℕ
identity l = replicate (2 * l) 0

unfoldable pub is_identity : List ℕ → Bool
is_identity p = same_list p (replicate (length p) 0)

-- ---- the product

-- how many bits the first n words of two planes have in common
unfoldable pub common : (ℕ → ℕ) → (ℕ → ℕ) → ℕ → ℕ
common f g zero = 0
common f g (suc n) = common f g n + popcount (bit_and (f n) (g n))

-- "ν the count of Y": both planes have the bit
abbrev pub ν : ℕ → List ℕ → ℕ
ν l p = common (x_word p) (z_word l p) l

-- "|z(P) and x(Q)|"
abbrev pub cross : ℕ → List ℕ → List ℕ → ℕ
cross l p q = common (z_word l p) (x_word q) l

-- "R the exclusive or"; a number that is missing is 0
unfoldable pub xor_words : List ℕ → List ℕ → List ℕ
xor_words [] q = q
xor_words (a ∷ p) [] = a ∷ p
xor_words (a ∷ p) (b ∷ q) = bit_xor a b ∷ xor_words p q

-- "PQ = i^e R; e = ν(P) + ν(Q) - ν(R) + 2 × |z(P) and x(Q)|, modulo 4": there -ν is 3ν
unfoldable pub phase : ℕ → List ℕ → List ℕ → ℕ
phase l p q = (ν l p + ν l q + 3 * ν l (xor_words p q) + 2 * cross l p q) % 4

-- the symplectic product: 1 where P and Q anticommute, 0 where they commute
unfoldable pub symplectic : ℕ → List ℕ → List ℕ → ℕ
symplectic l p q = (cross l p q + cross l q p) % 2

unfoldable pub anticommutes : ℕ → List ℕ → List ℕ → Bool
anticommutes l p q = eqb (symplectic l p q) 1
