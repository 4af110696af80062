-- Bit i of a number; the bit operations by their bits; numbers are equal if their bits are. Assumes nothing.
use Rattle.std.specs.Prelude.{◌≡◌, refl, ℕ, zero, suc, ◌/◌, ◌%◌, ◌^◌, ◌≤◌, ◌<◌, min, max}
use Rattle.std.proofs.Common.{sym, ap, ◌∙◌, div-one, pow-suc, mul_comm, mul-div_cancel, arith, pow_mono}
use Rattle.std.proofs.Math.Nat.{div-div-eq-div-mul, mul-mod_left, div-eq_of_lt}
use Rattle.std.proofs.Math.Arith.{bin_ind}
use Rattle.std.specs.Int.Bits.{bit_and, bit_or, bit_xor, differ, and_step, or_step, xor_step}
use Rattle.bits.specs.Digit.{Digit, low, digit_lt, digit_none, half_of, low_of, xor_digit, and_digit, or_digit, differ_assoc, min_differ}

-- ---- the halves and the lowest digits of each result

module _ (a b : ℕ) where
  pub xor_half : bit_xor a b / 2 ≡ bit_xor (a / 2) (b / 2)
  xor_half = ap (λ (x : ℕ). x / 2) (xor_step a b) ∙ half_of _ (xor_digit (low a) (low b))

  pub xor_low : bit_xor a b % 2 ≡ differ (a % 2) (b % 2)
  xor_low = ap (λ (x : ℕ). x % 2) (xor_step a b) ∙ low_of _ (xor_digit (low a) (low b))

  pub and_half : bit_and a b / 2 ≡ bit_and (a / 2) (b / 2)
  and_half = ap (λ (x : ℕ). x / 2) (and_step a b) ∙ half_of _ (and_digit (low a) (low b))

  pub and_low : bit_and a b % 2 ≡ min (a % 2) (b % 2)
  and_low = ap (λ (x : ℕ). x % 2) (and_step a b) ∙ low_of _ (and_digit (low a) (low b))

  pub or_half : bit_or a b / 2 ≡ bit_or (a / 2) (b / 2)
  or_half = ap (λ (x : ℕ). x / 2) (or_step a b) ∙ half_of _ (or_digit (low a) (low b))

  pub or_low : bit_or a b % 2 ≡ max (a % 2) (b % 2)
  or_low = ap (λ (x : ℕ). x % 2) (or_step a b) ∙ low_of _ (or_digit (low a) (low b))

-- ---- bit i

unfoldable pub bit : ℕ → ℕ → ℕ
bit n zero = n % 2
bit n (suc i) = bit (n / 2) i

pub bit_digit : (n i : ℕ) → Digit (bit n i)
unfolding bit
bit_digit n zero = low n
bit_digit n (suc i) = bit_digit (n / 2) i

pub bit_lt : (n i : ℕ) → bit n i < 2
bit_lt n i = digit_lt (bit_digit n i)

pub bit_bit_xor : (a b i : ℕ) → bit (bit_xor a b) i ≡ differ (bit a i) (bit b i)
unfolding bit
bit_bit_xor a b zero = xor_low a b
bit_bit_xor a b (suc i) = ap (λ (x : ℕ). bit x i) (xor_half a b) ∙ bit_bit_xor (a / 2) (b / 2) i

pub bit_bit_and : (a b i : ℕ) → bit (bit_and a b) i ≡ min (bit a i) (bit b i)
unfolding bit
bit_bit_and a b zero = and_low a b
bit_bit_and a b (suc i) = ap (λ (x : ℕ). bit x i) (and_half a b) ∙ bit_bit_and (a / 2) (b / 2) i

pub bit_bit_or : (a b i : ℕ) → bit (bit_or a b) i ≡ max (bit a i) (bit b i)
unfolding bit
bit_bit_or a b zero = or_low a b
bit_bit_or a b (suc i) = ap (λ (x : ℕ). bit x i) (or_half a b) ∙ bit_bit_or (a / 2) (b / 2) i

pub zero_bit : (i : ℕ) → bit 0 i ≡ 0
unfolding bit
zero_bit zero = refl
zero_bit (suc i) = zero_bit i

-- ---- numbers with the same bits are equal

bit_zero : (b : ℕ) → ((i : ℕ) → bit b i ≡ 0) → b ≡ 0
unfolding bit
bit_zero = bin_ind (λ (n : ℕ). ((i : ℕ) → bit n i ≡ 0) → n ≡ 0) (λ h. refl) (λ n ih h. omega (arith, h 0, ih (λ i. h (suc i))))

pub bit_ext : (a b : ℕ) → ((i : ℕ) → bit a i ≡ bit b i) → a ≡ b
unfolding bit
bit_ext =
    bin_ind (λ (n : ℕ). (b : ℕ) → ((i : ℕ) → bit n i ≡ bit b i) → n ≡ b) (λ b h. sym (bit_zero b (λ i. sym (h i) ∙ zero_bit i)))
    (λ n ih b h. omega (arith, h 0, ih (b / 2) (λ i. h (suc i))))

pub xor_assoc : (a b c : ℕ) → bit_xor (bit_xor a b) c ≡ bit_xor a (bit_xor b c)
xor_assoc a b c = bit_ext _ _ (λ i. simp bit_bit_xor (differ_assoc (bit_digit a i) (bit_digit b i) (bit_digit c i)))

pub and_xor : (a b c : ℕ) → bit_and (bit_xor a b) c ≡ bit_xor (bit_and a c) (bit_and b c)
and_xor a b c = bit_ext _ _ (λ i. simp (bit_bit_xor, bit_bit_and) (min_differ (bit_digit a i) (bit_digit b i) (bit_digit c i)))

max_assoc : (x y z : ℕ) → max (max x y) z ≡ max x (max y z)
max_assoc x y z = omega arith

pub or_assoc : (a b c : ℕ) → bit_or (bit_or a b) c ≡ bit_or a (bit_or b c)
or_assoc a b c = bit_ext _ _ (λ i. simp bit_bit_or (max_assoc (bit a i) (bit b i) (bit c i)))

pub or_swap : (a b c d : ℕ) → bit_or (bit_or a b) (bit_or c d) ≡ bit_or (bit_or a c) (bit_or b d)
or_swap a b c d = bit_ext _ _ (λ i. simp bit_bit_or (omega arith))

-- ---- bits by division; past a number's length there are none

pub bit_is : (n i : ℕ) → bit n i ≡ n / 2 ^ i % 2
unfolding bit
bit_is n zero = ap (λ (x : ℕ). x % 2) (sym (div-one n))
bit_is n (suc i) =
    bit_is (n / 2) i
    ∙ ap (λ (x : ℕ). x % 2) (div-div-eq-div-mul n 2 (2 ^ i) ∙ ap (λ (x : ℕ). n / x) (mul_comm 2 (2 ^ i) ∙ sym (pow-suc 2 i)))

pub bit_high : (n k i : ℕ) → n < 2 ^ k → k ≤ i → bit n i ≡ 0
bit_high n k i h l = bit_is n i ∙ ap (λ (x : ℕ). x % 2) (div-eq_of_lt (omega (arith, pow_mono l)))

-- ---- a power of 2 has one bit

pub pow_half : (k : ℕ) → 2 ^ suc k / 2 ≡ 2 ^ k
pow_half k = ap (λ (x : ℕ). x / 2) (pow-suc 2 k) ∙ mul-div_cancel (2 ^ k) (omega arith)

pub pow_low : (k : ℕ) → 2 ^ suc k % 2 ≡ 0
pow_low k = ap (λ (x : ℕ). x % 2) (pow-suc 2 k) ∙ mul-mod_left (2 ^ k) 2

pub pow_bit : (k : ℕ) → bit (2 ^ k) k ≡ 1
unfolding bit
pow_bit zero = refl
pow_bit (suc k) = ap (λ (x : ℕ). bit x k) (pow_half k) ∙ pow_bit k

pub pow_only : (k b : ℕ) → bit (2 ^ k) b ≡ 1 → b ≡ k
unfolding bit
pow_only zero zero h = refl
pow_only zero (suc b) h = absurd (omega (arith, zero_bit b))
pow_only (suc k) zero h = absurd (omega (arith, pow_low k))
pow_only (suc k) (suc b) h = ap suc (pow_only k b (ap (λ (x : ℕ). bit x b) (sym (pow_half k)) ∙ h))

pub pow_other : (t n : ℕ) → (n ≡ t → ⊥) → bit (2 ^ t) n ≡ 0
pow_other t n h = digit_none (bit_digit _ n) (λ e. h (pow_only t n e))
