-- Remainders by 2 and by 4: two numbers that differ by multiples have one remainder. Assumes nothing.
use Rattle.std.specs.Prelude.{◌≡◌, ◌⊎◌, ℕ, ◌+◌, ◌*◌, ◌%◌, ◌≤◌, ◌<◌}
use Rattle.std.proofs.Common.{inl, inr, arith}
use Rattle.std.proofs.Math.Decide.{dec_lt}

pub same2 : (a b s t : ℕ) → a + 2 * s ≡ b + 2 * t → a % 2 ≡ b % 2
same2 a b s t h = omega arith

pub same4 : (a b s t : ℕ) → a + 4 * s ≡ b + 4 * t → a % 4 ≡ b % 4
same4 a b s t h = omega arith

pub sum2 : (a b : ℕ) → (a % 2 + b % 2) % 2 ≡ (a + b) % 2
sum2 a b = omega arith

pub sum4 : (a b : ℕ) → (a % 4 + b % 4) % 4 ≡ (a + b) % 4
sum4 a b = omega arith

-- twice a remainder by 2
pub double4 : (a b s t : ℕ) → a + 4 * s ≡ 2 * b + 4 * t → a % 4 ≡ 2 * (b % 2)
double4 a b s t h = omega arith

pub lt_or_ge : (i l : ℕ) → (i < l) ⊎ (l ≤ i)
lt_or_ge i l = go (dec_lt i l)
  where
    go : Dec (i < l) → (i < l) ⊎ (l ≤ i)
    go (yes h) = inl h
    go (no h) = inr (omega arith)
