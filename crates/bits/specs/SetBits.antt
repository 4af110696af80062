-- The places of a number's set bits, rising: the lowest of them, then those that are left when it is cleared. Assumes nothing.
use Rattle.std.specs.Prelude.{◌≡◌, refl, ◌⊎◌, ℕ, zero, suc, ◌+◌, ◌-◌, ◌/◌, ◌%◌, ◌^◌, ◌≤◌, ◌<◌, List, [], ◌∷◌, cond, eqb}
use Rattle.std.proofs.Common.{sym, ap, ap₂, ◌∙◌, subst, inl, inr, pow-suc, add-zero, zero-add, arith, eq-eqb, ne_eqb}
use Rattle.std.proofs.Math.Decide.{dec_lt}
use Rattle.std.specs.Int.Bits.{bit_and, and_self}
use Rattle.std.specs.Int.Count.{count_trailing_zeros, under}
use Rattle.bits.specs.Digit.{Digit, off, on, low}
use Rattle.bits.specs.Bit.{bit, bit_high, and_half, and_low}

-- the set bits among n's first k, counted from q
unfoldable pub set_bits : ℕ → ℕ → ℕ → List ℕ
set_bits zero q n = []
set_bits (suc k) q n = cond (eqb (n % 2) 1) (q ∷ set_bits k (suc q) (n / 2)) (set_bits k (suc q) (n / 2))

-- those of a machine number
abbrev pub places : ℕ → List ℕ
places = set_bits 64 0

pub set_bits_none : (k q : ℕ) → set_bits k q 0 ≡ []
unfolding set_bits
set_bits_none zero q = refl
set_bits_none (suc k) q = set_bits_none k (suc q)

-- its lowest digit by itself
pub set_bits_odd : (k q n : ℕ) → n % 2 ≡ 1 → set_bits (suc k) q n ≡ q ∷ set_bits k (suc q) (n / 2)
unfolding set_bits
set_bits_odd k q n h = rw (eq-eqb (n % 2) 1 h)

pub set_bits_even : (k q n : ℕ) → n % 2 ≡ 0 → set_bits (suc k) q n ≡ set_bits k (suc q) (n / 2)
unfolding set_bits
set_bits_even k q n h = rw (ne_eqb (n % 2) 1 (omega arith))

-- the lowest set bit, then those that are left when it is cleared
pub set_bits_lowest : (k q n : ℕ) → 0 < n → n < 2 ^ k → set_bits k q n ≡ (q + count_trailing_zeros k n) ∷ set_bits k q (bit_and n (n - 1))
unfolding count_trailing_zeros
set_bits_lowest zero q n p h = absurd (omega arith)
set_bits_lowest (suc k) q n p h = go (λ a b. set_bits_lowest k (suc q) (n / 2) a b) (low n) refl
  where
    go : {d : ℕ} → (0 < n / 2 → n / 2 < 2 ^ k
        → set_bits k (suc q) (n / 2) ≡ (suc q + count_trailing_zeros k (n / 2)) ∷ set_bits k (suc q) (bit_and (n / 2) (n / 2 - 1))) → Digit d
        → n % 2 ≡ d
        → set_bits (suc k) q n ≡ (q + under (n % 2) (count_trailing_zeros k (n / 2))) ∷ set_bits (suc k) q (bit_and n (n - 1))
    go ih off e =
        let m : (n - 1) / 2 ≡ n / 2 - 1 = omega arith in
        let half : bit_and n (n - 1) / 2 ≡ bit_and (n / 2) (n / 2 - 1) = and_half n (n - 1) ∙ ap (bit_and (n / 2)) m in
        let even : bit_and n (n - 1) % 2 ≡ 0 = omega (arith, and_low n (n - 1)) in
        let shift : suc q + count_trailing_zeros k (n / 2) ≡ q + suc (count_trailing_zeros k (n / 2)) = omega arith in
        rw e (set_bits_even k q n e
        ∙ ih (omega arith) (omega (arith, pow-suc 2 k))
        ∙ ap₂ (λ (x : ℕ) (xs : List ℕ). x ∷ xs) shift
        (ap (set_bits k (suc q)) (sym half) ∙ sym (set_bits_even k q (bit_and n (n - 1)) even)))
    go ih on e =
        let m : (n - 1) / 2 ≡ n / 2 = omega arith in
        let half : bit_and n (n - 1) / 2 ≡ n / 2 = and_half n (n - 1) ∙ ap (bit_and (n / 2)) m ∙ and_self (n / 2) in
        let even : bit_and n (n - 1) % 2 ≡ 0 = omega (arith, and_low n (n - 1)) in
        rw e (set_bits_odd k q n e
        ∙ ap₂ (λ (x : ℕ) (xs : List ℕ). x ∷ xs) (sym (add-zero q))
        (ap (set_bits k (suc q)) (sym half) ∙ sym (set_bits_even k q (bit_and n (n - 1)) even)))

pub places_lowest : (n : ℕ) → (n ≡ 0 → ⊥) → n < 2 ^ 64 → places n ≡ count_trailing_zeros 64 n ∷ places (bit_and n (n - 1))
places_lowest n h f =
    set_bits_lowest 64 0 n (omega arith) f ∙ ap (λ (t : ℕ). t ∷ places (bit_and n (n - 1))) (zero-add (count_trailing_zeros 64 n))

-- each is below the number of bits
pub set_bits_lt : (k q n x : ℕ) (xs : List ℕ) → set_bits k q n ≡ x ∷ xs → x < q + k
unfolding set_bits
set_bits_lt zero q n x xs e = absurd (let z : ⊥ = cc in z)
set_bits_lt (suc k) q n x xs e = go (λ h. set_bits_lt k (suc q) (n / 2) x xs h) (low n) refl
  where
    go : {d : ℕ} → (set_bits k (suc q) (n / 2) ≡ x ∷ xs → x < suc q + k) → Digit d → n % 2 ≡ d → x < q + suc k
    go below off z = omega (arith, below (sym (set_bits_even k q n z) ∙ e))
    go below on z =
        let f : ◌≡◌ {A = List ℕ} (q ∷ set_bits k (suc q) (n / 2)) (x ∷ xs) = sym (set_bits_odd k q n z) ∙ e in
        let s : q ≡ x = cc in
        omega arith

-- n is one of a list
abbrev pub Among : ℕ → List ℕ → Type 0
Among n [] = ⊥
Among n (x ∷ xs) = (n ≡ x) ⊎ Among n xs

-- each set bit is among them
set_bits_have : (k q n i : ℕ) → i < k → bit n i ≡ 1 → Among (q + i) (set_bits k q n)
unfolding bit
set_bits_have zero q n i b h = absurd (omega arith)
set_bits_have (suc k) q n zero b h = subst (Among (q + 0)) (sym (set_bits_odd k q n h)) (inl (add-zero q))
set_bits_have (suc k) q n (suc i) b h =
    let next : suc q + i ≡ q + suc i = omega arith in
    go (subst (λ (x : ℕ). Among x (set_bits k (suc q) (n / 2))) next (set_bits_have k (suc q) (n / 2) i (omega arith) h)) (low n) refl
  where
    go : {d : ℕ} → Among (q + suc i) (set_bits k (suc q) (n / 2)) → Digit d → n % 2 ≡ d → Among (q + suc i) (set_bits (suc k) q n)
    go later off e = subst (Among (q + suc i)) (sym (set_bits_even k q n e)) later
    go later on e = subst (Among (q + suc i)) (sym (set_bits_odd k q n e)) (inr later)

pub places_have : (n i : ℕ) → n < 2 ^ 64 → bit n i ≡ 1 → Among i (places n)
places_have n i f h = subst (λ (x : ℕ). Among x (places n)) (zero-add i) (set_bits_have 64 0 n i (go (dec_lt i 64)) h)
  where
    go : Dec (i < 64) → i < 64
    go (yes b) = b
    go (no b) = absurd (omega (arith, bit_high n 64 i f (let m : 64 ≤ i = omega arith in m)))
