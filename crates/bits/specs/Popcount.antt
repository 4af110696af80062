-- How many bits of a number are set. `lib.Count.ones` goes through as many digits as the number says, so it computes at small
-- numbers only; `popcount` stops where nothing is left, and is the same number. Assumes nothing.
use Rattle.std.specs.Prelude.{◌≡◌, refl, ℕ, zero, suc, ◌+◌, ◌*◌, ◌/◌, ◌%◌, ◌^◌, ◌≤◌, ◌<◌}
use Rattle.std.proofs.Common.{sym, ap, ◌∙◌, pow-suc, arith}
use Rattle.std.proofs.Math.Arith.{bin_ind}
use Rattle.std.specs.Int.Bits.{bit_and, bit_xor}
use lib.Count.{ones, ones_step}
use Rattle.bits.specs.Digit.{low, differ_sum}
use Rattle.bits.specs.Bit.{bit, xor_half, xor_low, and_half, and_low, and_xor}
use Rattle.bits.specs.Sum.{sum_to, sum_first}

-- the set bits of n among its first digits
unfoldable pub popcount_in : ℕ → ℕ → ℕ
popcount_in zero n = 0
popcount_in (suc digits) zero = 0
popcount_in (suc digits) (suc n) = suc n % 2 + popcount_in digits (suc n / 2)

-- n has no more than n digits
unfoldable pub popcount : ℕ → ℕ
unfolding popcount_in
popcount n = popcount_in n n

-- ---- it is `ones`, which the machine's count of bits gives

ones_zero : ones 0 ≡ 0
unfolding ones
ones_zero = refl

in_ones : (d n : ℕ) → n ≤ d → popcount_in d n ≡ ones n
unfolding popcount_in
in_ones zero zero h = sym ones_zero
in_ones zero (suc n) h = absurd (omega arith)
in_ones (suc d) zero h = sym ones_zero
in_ones (suc d) (suc n) h = ap (λ (x : ℕ). suc n % 2 + x) (in_ones d (suc n / 2) (omega arith)) ∙ sym (ones_step (suc n))

pub popcount_ones : (n : ℕ) → popcount n ≡ ones n
unfolding popcount
popcount_ones n = in_ones n n (omega arith)

pub popcount_zero : popcount 0 ≡ 0
popcount_zero = popcount_ones 0 ∙ ones_zero

-- the lowest digit, and the half
pub popcount_step : (n : ℕ) → popcount n ≡ n % 2 + popcount (n / 2)
popcount_step n = simp popcount_ones (ones_step n)

-- ---- laws

-- |a ^ b| + 2 |a & b| = |a| + |b|
pub popcount_xor : (a b : ℕ) → popcount (bit_xor a b) + 2 * popcount (bit_and a b) ≡ popcount a + popcount b
popcount_xor =
    bin_ind (λ (a : ℕ). (b : ℕ) → popcount (bit_xor a b) + 2 * popcount (bit_and a b) ≡ popcount a + popcount b)
    (λ b. omega (arith, popcount_zero))
    (λ a ih b.
    simp (popcount_step (bit_xor a b), popcount_step (bit_and a b), popcount_step a, popcount_step b, xor_half, xor_low, and_half, and_low)
    (omega (arith, ih (b / 2), differ_sum (low a) (low b))))

-- |(a ^ b) & c| + 2 |a & b & c| = |a & c| + |b & c|
pub popcount_and_xor : (a b c : ℕ)
    → popcount (bit_and (bit_xor a b) c) + 2 * popcount (bit_and (bit_and a c) (bit_and b c)) ≡ popcount (bit_and a c) + popcount (bit_and b c)
popcount_and_xor a b c = rw and_xor (popcount_xor (bit_and a c) (bit_and b c))

-- the count is the sum of the bits
pub popcount_bits : (k n : ℕ) → n < 2 ^ k → popcount n ≡ sum_to (bit n) k
unfolding sum_to bit
popcount_bits zero n h = let e : n ≡ 0 = omega arith in rw e popcount_zero
popcount_bits (suc k) n h =
    popcount_step n ∙ ap (λ (x : ℕ). n % 2 + x) (popcount_bits k (n / 2) (omega (arith, pow-suc 2 k))) ∙ sym (sum_first (bit n) k)
