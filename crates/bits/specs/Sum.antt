-- Sums over the numbers below n. Assumes nothing.
use Rattle.std.specs.Prelude.{◌≡◌, refl, ℕ, zero, suc, ◌+◌, ◌<◌}
use Rattle.std.proofs.Common.{ap₂, add-zero, add-suc, arith}

unfoldable pub sum_to : (ℕ → ℕ) → ℕ → ℕ
sum_to f zero = 0
sum_to f (suc n) = sum_to f n + f n

pub sum_cong : (f g : ℕ → ℕ) (n : ℕ) → ((i : ℕ) → i < n → f i ≡ g i) → sum_to f n ≡ sum_to g n
unfolding sum_to
sum_cong f g zero h = refl
sum_cong f g (suc n) h = ap₂ (λ (a b : ℕ). a + b) (sum_cong f g n (λ i b. h i (omega arith))) (h n (omega arith))

pub sum_first : (f : ℕ → ℕ) (n : ℕ) → sum_to f (suc n) ≡ f 0 + sum_to (λ i. f (suc i)) n
unfolding sum_to
sum_first f zero = omega arith
sum_first f (suc n) = omega (arith, sum_first f n)

pub sum_add : (f : ℕ → ℕ) (n m : ℕ) → sum_to f (n + m) ≡ sum_to f n + sum_to (λ i. f (n + i)) m
unfolding sum_to
sum_add f n zero = rw (add-zero n) (omega arith)
sum_add f n (suc m) = rw (add-suc n m) (omega (arith, sum_add f n m))
