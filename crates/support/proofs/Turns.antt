-- The turns of the loops that build a signature. Assumes nothing.
use mathlib.Core.Path.{◌≡◌, sym, ap, ap₂, ◌∙◌}
use mathlib.Core.List.{List, [], ◌∷◌}
use Prim.Native.Nat.{ℕ, zero, suc, ◌+◌, ◌-◌, ◌*◌, ◌/◌, ◌%◌, ◌^◌, ◌≤◌, ◌<◌}
use native.Mathlib.Nat.{one-mul}
use native.Mathlib.Omega.{arith}
use lib.Bits.{bit_and, bit_or, or_zero_l, or_zero_r}
use lib.Count.{count_trailing_zeros}
use lib.Pow.{shl_exact}
use Rattle.bits.specs.LowestBit.{clear_lt}
use Rattle.bits.specs.Bit.{or_assoc}
use Rattle.bits.specs.SetBits.{places, set_bits_none, set_bits_lt, places_lowest}
use Rattle.pauli.specs.Word.{x_word, z_word}
use Rattle.pauli.specs.Support.{signature_to}
use Rattle.pauli.specs.SupportLaws.{bucket_lt, buckets_of, buckets_zero, buckets_clear, signature_word}

-- ---- over the set bits of one number

-- the buckets of places within the j-th number of a plane
unfoldable pub buckets_in : ℕ → ℕ → List ℕ → ℕ
buckets_in l j [] = 0
buckets_in l j (t ∷ ts) = bit_or (2 ^ ((64 * j + t) / l)) (buckets_in l j ts)

-- a number's places, lowest first; m is its size or more
buckets_to : (l j m w : ℕ) → w ≤ m → w < 2 ^ 64 → buckets_of l j w 64 ≡ buckets_in l j (places w)
unfolding buckets_in
buckets_to l j m zero h f = buckets_zero l j 64 ∙ sym (ap (buckets_in l j) (set_bits_none 64 0))
buckets_to l j zero (suc w) h f = absurd (omega arith)
buckets_to l j (suc m) (suc w) h f =
    let n = suc w in
    let rest = bit_and n (n - 1) in
    let less : rest < n = clear_lt n (omega arith) in
    let b = 2 ^ ((64 * j + count_trailing_zeros 64 n) / l) in
    sym (or_zero_l _) ∙ sym (buckets_clear l j n 0 (omega arith) f)
    ∙ ap₂ bit_or (or_zero_l b) (buckets_to l j m rest (omega arith) (omega arith))
    ∙ sym (ap (buckets_in l j) (places_lowest n (omega arith) f))

pub bits_none : (l j w s v : ℕ) → v ≡ w → w < 2 ^ 64 → bit_or s (buckets_in l j (places v)) ≡ bit_or s (buckets_of l j w 64)
bits_none l j w s v e f = rw e (ap (bit_or s) (sym (buckets_to l j w w (omega arith) f)))

pub turn_bucket : (l j w t : ℕ) (ts : List ℕ) → places w ≡ t ∷ ts → j < l → (64 * j + t) / l < 64
turn_bucket l j w t ts e b = bucket_lt l (64 * j + t) (omega arith) (omega (arith, set_bits_lt 64 0 w t ts e))

pub bit_more : (l j w s x t : ℕ) (ts : List ℕ) → places w ≡ t ∷ ts → j < l → bit_or s (buckets_in l j (places w)) ≡ x
    → bit_or (bit_or s (1 * 2 ^ ((64 * j + t) / l) % 2 ^ 64)) (buckets_in l j ts) ≡ x
unfolding buckets_in
bit_more l j w s x t ts e b i =
    rw (shl_exact {a = 1} 1 ((64 * j + t) / l) 64 (omega arith) (omega (arith, turn_bucket l j w t ts e b)), one-mul)
    (or_assoc s _ _ ∙ ap (λ (p : List ℕ). bit_or s (buckets_in l j p)) (sym e) ∙ i)

pub bits_all : (l j w s x : ℕ) → places w ≡ [] → bit_or s (buckets_in l j (places w)) ≡ x → s ≡ x
unfolding buckets_in
bits_all l j w s x z i = sym (or_zero_r s) ∙ ap (λ (p : List ℕ). bit_or s (buckets_in l j p)) (sym z) ∙ i

-- ---- over the numbers of the planes

pub word_more : (l : ℕ) (p : List ℕ) (j s r : ℕ) → s ≡ signature_to l p (64 * j) → r ≡ bit_or s (buckets_of l j (bit_or (x_word p j) (z_word l p j)) 64)
    → r ≡ signature_to l p (64 * (j + 1))
word_more l p j s r i h =
    let e : 64 * (j + 1) ≡ 64 * j + 64 = omega arith in
    rw (h, i, e) (sym (signature_word l p j 64 (omega arith)))
