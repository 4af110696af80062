-- The phase, word by word, as the loop sums it. Assumes nothing.
use mathlib.Core.Path.{◌≡◌, refl, ap₂, ◌∙◌}
use mathlib.Core.Bool.{true, false}
use mathlib.Core.List.{List}
use Prim.Native.Nat.{ℕ, zero, suc, ◌+◌, ◌*◌, ◌/◌, ◌%◌, ◌≤◌, ◌<◌, min}
use native.Mathlib.Omega.{arith}
use lib.Bits.{bit_and, bit_xor, differ}
use Rattle.bits.specs.Digit.{Digit, off, on, low}
use Rattle.bits.specs.Bit.{xor_half, xor_low, and_half, and_low}
use Rattle.bits.specs.Popcount.{popcount, popcount_zero, popcount_step, popcount_xor, popcount_and_xor}
use Rattle.pauli.specs.Word.{x_word, z_word, common, xor_words, phase, anticommutes}
use Rattle.pauli.specs.ProductLaws.{xor_words_at, common_more}
use Rattle.angle.specs.declared.Phase.{Phase}
use Rattle.std.specs.Prelude.{Some, None}
use Rattle.product.specs.Product.{PhaseOf, phase_tells, odd_phase}

-- ---- one number of each plane

-- the places where the letters anticommute
abbrev pub odd_of : ℕ → ℕ → ℕ → ℕ → ℕ
odd_of px pz qx qz = bit_xor (bit_and px qz) (bit_and pz qx)

-- and there, where their product has -i
abbrev pub minus_of : ℕ → ℕ → ℕ → ℕ → ℕ
minus_of px pz qx qz = bit_xor (bit_xor (bit_xor px qx) (bit_xor pz qz)) (bit_and px qz)

-- its share of ν(P) + ν(Q) + 3ν(R) + 2 × |z(P) and x(Q)|
abbrev share_of : ℕ → ℕ → ℕ → ℕ → ℕ
share_of px pz qx qz =
    popcount (bit_and px pz) + popcount (bit_and qx qz) + 3 * popcount (bit_and (bit_xor px qx) (bit_xor pz qz)) + 2 * popcount (bit_and pz qx)

-- one place: 1 for i, 3 for -i, 0 where the letters commute, and a multiple of 4
digit_share : {a b c d : ℕ} → Digit a → Digit b → Digit c → Digit d
    → (w : ℕ) × (min a b + min c d + 3 * min (differ a c) (differ b d) + 2 * min b c
    ≡ differ (min a d) (min b c) + 2 * min (differ (differ (differ a c) (differ b d)) (min a d)) (differ (min a d) (min b c)) + 4 * w)
digit_share off off off off = (0, refl)
digit_share off off off on = (0, refl)
digit_share off off on off = (0, refl)
digit_share off off on on = (1, refl)
digit_share off on off off = (0, refl)
digit_share off on off on = (0, refl)
digit_share off on on off = (1, refl)
digit_share off on on on = (0, refl)
digit_share on off off off = (0, refl)
digit_share on off off on = (0, refl)
digit_share on off on off = (0, refl)
digit_share on off on on = (0, refl)
digit_share on on off off = (1, refl)
digit_share on on off on = (0, refl)
digit_share on on on off = (0, refl)
digit_share on on on on = (1, refl)

-- all places of numbers up to k
share_to : (k a b c d : ℕ) → a ≤ k → b ≤ k → c ≤ k → d ≤ k
    → (w : ℕ) × (share_of a b c d ≡ popcount (odd_of a b c d) + 2 * popcount (bit_and (minus_of a b c d) (odd_of a b c d)) + 4 * w)
share_to zero zero zero zero zero ha hb hc hd = (0, omega (arith, popcount_zero))
share_to zero (suc a) b c d ha hb hc hd = absurd (omega arith)
share_to zero zero (suc b) c d ha hb hc hd = absurd (omega arith)
share_to zero zero zero (suc c) d ha hb hc hd = absurd (omega arith)
share_to zero zero zero zero (suc d) ha hb hc hd = absurd (omega arith)
share_to (suc k) a b c d ha hb hc hd =
    let rest = share_to k (a / 2) (b / 2) (c / 2) (d / 2) (omega arith) (omega arith) (omega arith) (omega arith) in
    let last = digit_share (low a) (low b) (low c) (low d) in (
      rest.0 + last.0,
      simp (
        popcount_step (bit_and a b),
        popcount_step (bit_and c d),
        popcount_step (bit_and (bit_xor a c) (bit_xor b d)),
        popcount_step (bit_and b c),
        popcount_step (odd_of a b c d),
        popcount_step (bit_and (minus_of a b c d) (odd_of a b c d)),
        xor_half,
        xor_low,
        and_half,
        and_low,
      )
          (omega (arith, rest.1, last.1)),
    )

share_word : (a b c d : ℕ)
    → (w : ℕ) × (share_of a b c d ≡ popcount (odd_of a b c d) + 2 * popcount (bit_and (minus_of a b c d) (odd_of a b c d)) + 4 * w)
share_word a b c d = share_to (a + b + c + d) a b c d (omega arith) (omega arith) (omega arith) (omega arith)

-- ---- word after word

-- the sum over the first j words
unfoldable pub turns_to : ℕ → List ℕ → List ℕ → ℕ → ℕ
turns_to l p q j =
    common (x_word p) (z_word l p) j + common (x_word q) (z_word l q) j + 3 * common (x_word (xor_words p q)) (z_word l (xor_words p q)) j
    + 2 * common (z_word l p) (x_word q) j

turns_more : (l : ℕ) (p q : List ℕ) (j : ℕ)
    → turns_to l p q (j + 1) ≡ turns_to l p q j + share_of (x_word p j) (z_word l p j) (x_word q j) (z_word l q j)
unfolding turns_to
turns_more l p q j =
    let r = xor_words p q in
    let m : common (x_word r) (z_word l r) (j + 1)
    ≡ common (x_word r) (z_word l r) j + popcount (bit_and (bit_xor (x_word p j) (x_word q j)) (bit_xor (z_word l p j) (z_word l q j))) =
    common_more (x_word r) (z_word l r) j
    ∙ ap₂ (λ (x z : ℕ). common (x_word r) (z_word l r) j + popcount (bit_and x z)) (xor_words_at p q j) (xor_words_at p q (l + j)) in
    omega (arith, common_more (x_word p) (z_word l p) j, common_more (x_word q) (z_word l q) j, common_more (z_word l p) (x_word q) j)

-- the digits of a sum at each place take in o, and 2 more where m has it
digits_more : (ones twos o m : ℕ)
    → (w : ℕ) × (popcount (bit_xor ones o) + 2 * popcount (bit_xor twos (bit_and (bit_xor ones m) o)) + 4 * w
    ≡ popcount ones + 2 * popcount twos + popcount o + 2 * popcount (bit_and m o))
digits_more ones twos o m =
    let carry = bit_and (bit_xor ones m) o in (
      popcount (bit_and twos carry) + popcount (bit_and (bit_and ones o) (bit_and m o)),
      omega (arith, popcount_xor ones o, popcount_xor twos carry, popcount_and_xor ones m o),
    )

-- what the loop holds after j words
pub record Reading (l : ℕ) (p q : List ℕ) (ones twos j : ℕ) : Type 0 where
  pub le : j ≤ l
  pub summed : (popcount ones + 2 * popcount twos) % 4 ≡ turns_to l p q j % 4

pub read_none : (l : ℕ) (p q : List ℕ) → Reading l p q 0 0 0
unfolding turns_to common
read_none l p q = record { le = omega arith; summed = omega (arith, popcount_zero) }

module _ (l : ℕ) (p q : List ℕ) (ones twos j : ℕ) (a : Reading l p q ones twos j) where
  abbrev odd : ℕ
  odd = odd_of (x_word p j) (z_word l p j) (x_word q j) (z_word l q j)

  abbrev minus : ℕ
  minus = minus_of (x_word p j) (z_word l p j) (x_word q j) (z_word l q j)

  pub read_more : j < l → Reading l p q (bit_xor ones odd) (bit_xor twos (bit_and (bit_xor ones minus) odd)) (j + 1)
  read_more h =
      let s = share_word (x_word p j) (z_word l p j) (x_word q j) (z_word l q j) in
      let d = digits_more ones twos odd minus in
      record { le = omega arith; summed = omega (arith, a.summed, turns_more l p q j, s.1, d.1) }

  pub read_all : l ≤ j → {e : ℕ} → e ≡ (popcount ones + 2 * popcount twos) % 4 → PhaseOf l p q e
  unfolding turns_to phase
  read_all h {e} r =
      let d : j ≡ l = omega (arith, a.le) in
      phase_tells (r ∙ rw d at a.summed)

-- ---- `odd_phase`

module _ (l : ℕ) (p q : List ℕ) where
  -- the words commute
  pub tell_commute : anticommutes l p q ≡ false → None ≡ odd_phase l p q
  unfolding odd_phase
  tell_commute h = rw h refl

  -- they anticommute: it is the whole phase
  pub tell_phase : {e : Phase} → anticommutes l p q ≡ true → PhaseOf l p q e.0 → Some e ≡ odd_phase l p q
  unfolding odd_phase
  tell_phase h f = rw (h, ← f.turns) refl
