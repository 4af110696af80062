-- The parity of the crossed bits, as the loop of `anticommutes` sums it. Assumes nothing.
use mathlib.Core.Path.{◌≡◌, ap}
use mathlib.Core.List.{List}
use Prim.Native.Nat.{ℕ, ◌+◌, ◌%◌}
use native.Mathlib.Omega.{arith}
use lib.Bits.{bit_and, bit_xor, and_comm}
use Rattle.bits.specs.Popcount.{popcount, popcount_zero, popcount_xor}
use Rattle.pauli.specs.Word.{x_word, z_word, common, symplectic}
use Rattle.pauli.specs.ProductLaws.{common_more}

unfoldable pub crosses_to : ℕ → List ℕ → List ℕ → ℕ → ℕ
crosses_to l p q j = common (z_word l p) (x_word q) j + common (z_word l q) (x_word p) j

pub crosses_none : (l : ℕ) (p q : List ℕ) → popcount 0 % 2 ≡ crosses_to l p q 0 % 2
unfolding crosses_to common
crosses_none l p q = ap (λ (n : ℕ). n % 2) popcount_zero

pub crosses_more : (l : ℕ) (p q : List ℕ) (acc j : ℕ) → popcount acc % 2 ≡ crosses_to l p q j % 2
    → popcount (bit_xor acc (bit_xor (bit_and (x_word p j) (z_word l q j)) (bit_and (z_word l p j) (x_word q j)))) % 2 ≡ crosses_to l p q (j + 1) % 2
unfolding crosses_to
crosses_more l p q acc j h =
    let a = bit_and (x_word p j) (z_word l q j) in
    let b = bit_and (z_word l p j) (x_word q j) in
    simp (common_more, and_comm (z_word l q j) (x_word p j))
    (omega (arith, popcount_xor acc (bit_xor a b), popcount_xor a b))

pub crosses_all : (l : ℕ) (p q : List ℕ) (acc j : ℕ) → popcount acc % 2 ≡ crosses_to l p q j % 2 → j ≡ l → popcount acc % 2 ≡ symplectic l p q
unfolding crosses_to symplectic
crosses_all l p q acc j h e = rw (h, e)
