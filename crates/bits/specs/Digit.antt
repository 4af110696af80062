-- Binary digits, and the truth tables of the operations on them: `differ` is xor, `min` is and, `max` is or. Assumes nothing.
use Rattle.std.specs.Prelude.{◌≡◌, refl, ℕ, zero, suc, ◌+◌, ◌*◌, ◌/◌, ◌%◌, ◌<◌, min, max}
use Rattle.std.proofs.Common.{arith}
use Rattle.std.specs.Int.Bits.{differ}

pub data Digit : ℕ → Type 0 where
  off : Digit 0
  on : Digit 1

pub digit : (n : ℕ) → n < 2 → Digit n
digit zero h = off
digit (suc zero) h = on
digit (suc (suc n)) h = absurd (omega arith)

-- the lowest digit of n
pub low : (n : ℕ) → Digit (n % 2)
low n = digit (n % 2) (omega arith)

pub digit_lt : {d : ℕ} → Digit d → d < 2
digit_lt off = omega arith
digit_lt on = omega arith

pub digit_none : {x : ℕ} → Digit x → (x ≡ 1 → ⊥) → x ≡ 0
digit_none off h = refl
digit_none on h = absurd (h refl)

-- a number by its lowest digit
pub half_of : (q : ℕ) {d : ℕ} → Digit d → (q * 2 + d) / 2 ≡ q
half_of q off = omega arith
half_of q on = omega arith

pub low_of : (q : ℕ) {d : ℕ} → Digit d → (q * 2 + d) % 2 ≡ d
low_of q off = omega arith
low_of q on = omega arith

-- ---- the operations give digits

pub xor_digit : {x y : ℕ} → Digit x → Digit y → Digit (differ x y)
xor_digit off y = y
xor_digit on off = on
xor_digit on on = off

pub and_digit : {x y : ℕ} → Digit x → Digit y → Digit (min x y)
and_digit off off = off
and_digit off on = off
and_digit on off = off
and_digit on on = on

pub or_digit : {x y : ℕ} → Digit x → Digit y → Digit (max x y)
or_digit off off = off
or_digit off on = on
or_digit on off = on
or_digit on on = on

-- ---- their laws, by table

pub differ_assoc : {x y z : ℕ} → Digit x → Digit y → Digit z → differ (differ x y) z ≡ differ x (differ y z)
differ_assoc off y z = refl
differ_assoc on off z = refl
differ_assoc on on off = refl
differ_assoc on on on = refl

pub min_differ : {x y z : ℕ} → Digit x → Digit y → Digit z → min (differ x y) z ≡ differ (min x z) (min y z)
min_differ off off off = refl
min_differ off off on = refl
min_differ off on off = refl
min_differ off on on = refl
min_differ on off off = refl
min_differ on off on = refl
min_differ on on off = refl
min_differ on on on = refl

pub differ_sum : {x y : ℕ} → Digit x → Digit y → differ x y + 2 * min x y ≡ x + y
differ_sum off off = refl
differ_sum off on = refl
differ_sum on off = refl
differ_sum on on = refl

pub min_none : {x y : ℕ} → Digit x → Digit y → (x ≡ 1 → y ≡ 1 → ⊥) → min x y ≡ 0
min_none off off h = refl
min_none off on h = refl
min_none on off h = refl
min_none on on h = absurd (h refl refl)
