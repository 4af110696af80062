-- The lowest set bit: where it stands, and what is left when it is cleared. Assumes nothing.
use Rattle.std.specs.Prelude.{◌≡◌, refl, ℕ, zero, suc, ◌-◌, ◌/◌, ◌%◌, ◌^◌, ◌<◌}
use Rattle.std.proofs.Common.{sym, ap, ap₂, ◌∙◌, pow-suc, arith}
use Rattle.std.specs.Int.Bits.{bit_and, bit_or, or_zero_r, and_self}
use Rattle.std.proofs.lemmas.Nat.{and_le_r}
use Rattle.std.specs.Int.Count.{count_trailing_zeros, under}
use Rattle.bits.specs.Digit.{Digit, off, on, low}
use Rattle.bits.specs.Bit.{and_half, and_low, or_half, or_low, pow_half, pow_low}

-- w is w & (w - 1) with its lowest set bit
pub lowest_bit : (k w : ℕ) → 0 < w → w < 2 ^ k → w ≡ bit_or (bit_and w (w - 1)) (2 ^ count_trailing_zeros k w)
unfolding count_trailing_zeros
lowest_bit zero w p h = absurd (omega arith)
lowest_bit (suc k) w p h = go (λ q. lowest_bit k (w / 2) q (omega (arith, pow-suc 2 k))) (low w) refl
  where
    go : {d : ℕ} → (0 < w / 2 → w / 2 ≡ bit_or (bit_and (w / 2) (w / 2 - 1)) (2 ^ count_trailing_zeros k (w / 2))) → Digit d → w % 2 ≡ d
        → w ≡ bit_or (bit_and w (w - 1)) (2 ^ under (w % 2) (count_trailing_zeros k (w / 2)))
    go ih off e =
        let t = count_trailing_zeros k (w / 2) in
        let a = bit_and w (w - 1) in
        let m : (w - 1) / 2 ≡ w / 2 - 1 = omega arith in
        let half : bit_or a (2 ^ suc t) / 2 ≡ w / 2 =
        or_half a (2 ^ suc t) ∙ ap₂ bit_or (and_half w (w - 1) ∙ ap (bit_and (w / 2)) m) (pow_half t) ∙ sym (ih (omega arith)) in
        rw e (omega (arith, or_low a (2 ^ suc t), and_low w (w - 1), pow_low t))
    go ih on e =
        let a = bit_and w (w - 1) in
        let m : (w - 1) / 2 ≡ w / 2 = omega arith in
        let half : bit_or a 1 / 2 ≡ w / 2 =
        or_half a 1 ∙ or_zero_r (a / 2) ∙ and_half w (w - 1) ∙ ap (bit_and (w / 2)) m ∙ and_self (w / 2) in
        rw e (omega (arith, or_low a 1))

pub trailing_lt : (k w : ℕ) → 0 < w → w < 2 ^ k → count_trailing_zeros k w < k
unfolding count_trailing_zeros
trailing_lt zero w p h = absurd (omega arith)
trailing_lt (suc k) w p h = go (λ q. trailing_lt k (w / 2) q (omega (arith, pow-suc 2 k))) (low w) refl
  where
    go : {d : ℕ} → (0 < w / 2 → count_trailing_zeros k (w / 2) < k) → Digit d → w % 2 ≡ d → under (w % 2) (count_trailing_zeros k (w / 2)) < suc k
    go ih off e = rw e (omega (arith, ih (omega arith)))
    go ih on e = rw e (omega arith)

pub clear_lt : (w : ℕ) → 0 < w → bit_and w (w - 1) < w
clear_lt w n = omega (arith, and_le_r w (w - 1))
