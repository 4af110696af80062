-- Phases, signs, and tests over all phases. Assumes nothing.
use Rattle.std.specs.Prelude.{◌≡◌, refl, Bool, true, false, ℕ, zero, suc, ◌+◌, ◌*◌, ◌/◌, ◌%◌, ◌<◌, ℤ, pos, negsuc}
use Rattle.std.proofs.Common.{sym, ◌∙◌, ap, zero-add, suc-add, div-add-mod', arith}
use Rattle.groups.specs.Abelian.{Ab}
use Rattle.groups.specs.Root.{is_zero, both, both_left, both_right}

-- ---- quarter turns, the powers of i: "a phase counts quarter turns modulo 4"

pub data Quarter : Type 0 where
  q0 q1 q2 q3 : Quarter

-- a quarter turn more
abbrev pub next4 : Quarter → Quarter
next4 q0 = q1
next4 q1 = q2
next4 q2 = q3
next4 q3 = q0

infixl 60 ◌⊞₄◌
abbrev pub ◌⊞₄◌ : Quarter → Quarter → Quarter
q0 ⊞₄ u = u
q1 ⊞₄ u = next4 u
q2 ⊞₄ u = next4 (next4 u)
q3 ⊞₄ u = next4 (next4 (next4 u))

abbrev pub neg4 : Quarter → Quarter
neg4 q0 = q0
neg4 q1 = q3
neg4 q2 = q2
neg4 q3 = q1

around4 : (q : Quarter) → next4 (next4 (next4 (next4 q))) ≡ q
around4 q0 = refl
around4 q1 = refl
around4 q2 = refl
around4 q3 = refl

next4_add : (t u : Quarter) → next4 t ⊞₄ u ≡ next4 (t ⊞₄ u)
next4_add q0 u = refl
next4_add q1 u = refl
next4_add q2 u = refl
next4_add q3 u = sym (around4 u)

add_next4 : (t u : Quarter) → t ⊞₄ next4 u ≡ next4 (t ⊞₄ u)
add_next4 q0 u = refl
add_next4 q1 u = refl
add_next4 q2 u = refl
add_next4 q3 u = refl

pub add4_assoc : (t u v : Quarter) → (t ⊞₄ u) ⊞₄ v ≡ t ⊞₄ (u ⊞₄ v)
add4_assoc q0 u v = refl
add4_assoc q1 u v = next4_add u v
add4_assoc q2 u v = next4_add (next4 u) v ∙ ap next4 (next4_add u v)
add4_assoc q3 u v = next4_add (next4 (next4 u)) v ∙ ap next4 (next4_add (next4 u) v ∙ ap next4 (next4_add u v))

pub add4_zero : (t : Quarter) → t ⊞₄ q0 ≡ t
add4_zero q0 = refl
add4_zero q1 = refl
add4_zero q2 = refl
add4_zero q3 = refl

pub add4_comm : (t u : Quarter) → t ⊞₄ u ≡ u ⊞₄ t
add4_comm t q0 = add4_zero t
add4_comm t q1 = add_next4 t q0 ∙ ap next4 (add4_zero t)
add4_comm t q2 = add_next4 t q1 ∙ ap next4 (add_next4 t q0 ∙ ap next4 (add4_zero t))
add4_comm t q3 = add_next4 t q2 ∙ ap next4 (add_next4 t q1 ∙ ap next4 (add_next4 t q0 ∙ ap next4 (add4_zero t)))

pub add4_neg : (t : Quarter) → t ⊞₄ neg4 t ≡ q0
add4_neg q0 = refl
add4_neg q1 = refl
add4_neg q2 = refl
add4_neg q3 = refl

-- the quarters are an abelian group
abbrev pub Quarterᵃ : Ab
Quarterᵃ = record {
  C = Quarter;
  zer = q0;
  add = ◌⊞₄◌;
  neg = neg4;
  add_assoc = add4_assoc;
  add_comm = add4_comm;
  add_zer = add4_zero;
  add_neg = add4_neg;
}

-- ---- i^n

unfoldable pub quarter : ℕ → Quarter
quarter zero = q0
quarter (suc n) = next4 (quarter n)

pub quarter_add : (m n : ℕ) → quarter (m + n) ≡ quarter m ⊞₄ quarter n
unfolding quarter
quarter_add zero n = ap quarter (zero-add n)
quarter_add (suc m) n = ap quarter (suc-add m n) ∙ ap next4 (quarter_add m n) ∙ sym (next4_add (quarter m) (quarter n))

quarter_times : (d r : ℕ) → quarter (d * 4 + r) ≡ quarter r
unfolding quarter
quarter_times zero r = let e : 0 * 4 + r ≡ r = omega arith in ap quarter e
quarter_times (suc d) r =
    let e : suc d * 4 + r ≡ suc (suc (suc (suc (d * 4 + r)))) = omega arith in
    ap quarter e ∙ around4 (quarter (d * 4 + r)) ∙ quarter_times d r

pub quarter_mod : (n : ℕ) → quarter (n % 4) ≡ quarter n
quarter_mod n = sym (quarter_times (n / 4) (n % 4)) ∙ ap quarter (div-add-mod' n 4)

-- how many quarter turns
abbrev pub count : Quarter → ℕ
count q0 = 0
count q1 = 1
count q2 = 2
count q3 = 3

pub quarter_count : (q : Quarter) → quarter (count q) ≡ q
unfolding quarter
quarter_count q0 = refl
quarter_count q1 = refl
quarter_count q2 = refl
quarter_count q3 = refl

count_small : (n : ℕ) → n < 4 → count (quarter n) ≡ n
unfolding quarter
count_small zero h = refl
count_small (suc zero) h = refl
count_small (suc (suc zero)) h = refl
count_small (suc (suc (suc zero))) h = refl
count_small (suc (suc (suc (suc n)))) h = absurd (omega arith)

pub count_quarter : (n : ℕ) → count (quarter n) ≡ n % 4
count_quarter n = ap count (sym (quarter_mod n)) ∙ count_small (n % 4) (omega arith)

-- ---- parity

abbrev pub odd : Quarter → Bool
odd q0 = false
odd q1 = true
odd q2 = false
odd q3 = true

abbrev pub xor : Bool → Bool → Bool
xor true true = false
xor true false = true
xor false b = b

odd_next : (q : Quarter) → odd (next4 q) ≡ xor true (odd q)
odd_next q0 = refl
odd_next q1 = refl
odd_next q2 = refl
odd_next q3 = refl

pub xor_twice : (b : Bool) → xor true (xor true b) ≡ b
xor_twice true = refl
xor_twice false = refl

pub odd_add : (t u : Quarter) → odd (t ⊞₄ u) ≡ xor (odd t) (odd u)
odd_add q0 u = refl
odd_add q1 u = odd_next u
odd_add q2 u = odd_next (next4 u) ∙ ap (xor true) (odd_next u) ∙ xor_twice (odd u)
odd_add q3 u = odd_next (next4 (next4 u)) ∙ ap (xor true) (odd_next (next4 u) ∙ ap (xor true) (odd_next u) ∙ xor_twice (odd u))

-- the parity of n is that of i^n
odd_times : (d r : ℕ) → odd (quarter (d * 2 + r)) ≡ odd (quarter r)
unfolding quarter
odd_times zero r = let e : 0 * 2 + r ≡ r = omega arith in ap (λ n. odd (quarter n)) e
odd_times (suc d) r =
    let e : suc d * 2 + r ≡ suc (suc (d * 2 + r)) = omega arith in
    ap (λ n. odd (quarter n)) e ∙ odd_add q2 (quarter (d * 2 + r)) ∙ odd_times d r

pub odd_half : (n : ℕ) → odd (quarter (n % 2)) ≡ odd (quarter n)
odd_half n = sym (odd_times (n / 2) (n % 2)) ∙ ap (λ m. odd (quarter m)) (div-add-mod' n 2)

pub odd_neg : (q : Quarter) → odd (neg4 q) ≡ odd q
odd_neg q0 = refl
odd_neg q1 = refl
odd_neg q2 = refl
odd_neg q3 = refl

pub even_add : (t u : Quarter) → odd t ≡ false → odd u ≡ false → odd (t ⊞₄ u) ≡ false
even_add t u h k = odd_add t u ∙ ap (λ b. xor b (odd u)) h ∙ k

-- ---- signs, with nil for nothing

pub data Sgn : Type 0 where
  nil plus minus : Sgn

abbrev pub opposite : Sgn → Sgn
opposite nil = nil
opposite plus = minus
opposite minus = plus

infixl 70 ◌·ˢ◌
abbrev pub ◌·ˢ◌ : Sgn → Sgn → Sgn
nil ·ˢ t = nil
plus ·ˢ t = t
minus ·ˢ t = opposite t

pub sign_comm : (s t : Sgn) → s ·ˢ t ≡ t ·ˢ s
sign_comm nil nil = refl
sign_comm nil plus = refl
sign_comm nil minus = refl
sign_comm plus nil = refl
sign_comm plus plus = refl
sign_comm plus minus = refl
sign_comm minus nil = refl
sign_comm minus plus = refl
sign_comm minus minus = refl

pub opposite_left : (s t : Sgn) → opposite s ·ˢ t ≡ opposite (s ·ˢ t)
opposite_left nil t = refl
opposite_left plus t = refl
opposite_left minus nil = refl
opposite_left minus plus = refl
opposite_left minus minus = refl

abbrev pub toℤ : Sgn → ℤ
toℤ nil = pos 0
toℤ plus = pos 1
toℤ minus = negsuc 0

-- i · i^q for odd q, nil for even q: the sign of i P Q where P Q = i^q R anticommute
abbrev pub σ : Quarter → Sgn
σ q0 = nil
σ q1 = minus
σ q2 = nil
σ q3 = plus

-- i^q for even q, nil for odd q: the sign of P Q where they commute
abbrev pub τ : Quarter → Sgn
τ q0 = plus
τ q1 = nil
τ q2 = minus
τ q3 = nil

pub σ-even : (q : Quarter) → odd q ≡ false → σ q ≡ nil
σ-even q0 h = refl
σ-even q1 h = cc
σ-even q2 h = refl
σ-even q3 h = cc

pub τ-odd : (q : Quarter) → odd q ≡ true → τ q ≡ nil
τ-odd q0 h = cc
τ-odd q1 h = refl
τ-odd q2 h = cc
τ-odd q3 h = refl

pub σ-cube : (q : Quarter) → σ q ·ˢ (σ (neg4 q) ·ˢ σ q) ≡ minus ·ˢ σ q
σ-cube q0 = refl
σ-cube q1 = refl
σ-cube q2 = refl
σ-cube q3 = refl

-- back and forth
pub σ-back : (q : Quarter) → odd q ≡ true → σ q ·ˢ σ (neg4 q) ≡ minus
σ-back q0 h = cc
σ-back q1 h = refl
σ-back q2 h = cc
σ-back q3 h = refl

pub τ-back : (q : Quarter) → odd q ≡ false → τ q ·ˢ τ (neg4 q) ≡ plus
τ-back q0 h = refl
τ-back q1 h = cc
τ-back q2 h = refl
τ-back q3 h = cc

pub τ-square : (q : Quarter) → odd q ≡ false → τ q ·ˢ τ q ≡ plus
τ-square q0 h = refl
τ-square q1 h = cc
τ-square q2 h = refl
τ-square q3 h = cc

pub τ-add : (t u : Quarter) → odd t ≡ false → τ t ·ˢ τ u ≡ τ (t ⊞₄ u)
τ-add q0 u h = refl
τ-add q1 u h = cc
τ-add q2 q0 h = refl
τ-add q2 q1 h = refl
τ-add q2 q2 h = refl
τ-add q2 q3 h = refl
τ-add q3 u h = cc

pub τ-one : (q : Quarter) → τ (q1 ⊞₄ q) ≡ σ q
τ-one q0 = refl
τ-one q1 = refl
τ-one q2 = refl
τ-one q3 = refl

pub τ-three : (q : Quarter) → τ (q3 ⊞₄ q) ≡ minus ·ˢ σ q
τ-three q0 = refl
τ-three q1 = refl
τ-three q2 = refl
τ-three q3 = refl

pub even_self : (q : Quarter) → odd q ≡ false → neg4 q ≡ q
even_self q0 h = refl
even_self q1 h = cc
even_self q2 h = refl
even_self q3 h = cc

pub odd_twice : (q : Quarter) → odd q ≡ true → q ⊞₄ q ≡ q2
odd_twice q0 h = cc
odd_twice q1 h = refl
odd_twice q2 h = cc
odd_twice q3 h = refl

-- ---- tests over all quarters

abbrev pub unless : Bool → Bool → Bool
unless true b = b
unless false b = true

unless_so : (a b : Bool) → unless a b ≡ true → a ≡ true → b ≡ true
unless_so true b h k = h
unless_so false b h k = cc

abbrev pub all4 : (Quarter → Bool) → Bool
all4 p = both (p q0) (both (p q1) (both (p q2) (p q3)))

all4_at : (p : Quarter → Bool) → all4 p ≡ true → (q : Quarter) → p q ≡ true
all4_at p h = at
  where
    after0 : both (p q1) (both (p q2) (p q3)) ≡ true
    after0 = both_right (p q0) (both (p q1) (both (p q2) (p q3))) h

    after1 : both (p q2) (p q3) ≡ true
    after1 = both_right (p q1) (both (p q2) (p q3)) after0

    at : (q : Quarter) → p q ≡ true
    at q0 = both_left (p q0) (both (p q1) (both (p q2) (p q3))) h
    at q1 = both_left (p q1) (both (p q2) (p q3)) after0
    at q2 = both_left (p q2) (p q3) after1
    at q3 = both_right (p q2) (p q3) after1

-- the parity rule: t is odd if just one of v and w is
abbrev pub fits : Quarter → Quarter → Quarter → Bool
fits v w t = xor (xor (odd t) true) (xor (odd v) (odd w))

xor_self : (b : Bool) → xor (xor b true) b ≡ true
xor_self true = refl
xor_self false = refl

pub fits_of : (v w t : Quarter) → odd t ≡ xor (odd v) (odd w) → fits v w t ≡ true
fits_of v w t h = ap (λ b. xor (xor (odd t) true) b) (sym h) ∙ xor_self (odd t)

-- a number for each four quarters, zero wherever the parities fit
abbrev pub zero4 : (Quarter → Quarter → Quarter → Quarter → ℤ) → Bool
zero4 p = all4 (λ u. all4 (λ v. all4 (λ w. all4 (λ t. unless (fits v w t) (is_zero (p u v w t))))))

pub zero4_at : (p : Quarter → Quarter → Quarter → Quarter → ℤ) → zero4 p ≡ true
    → (u v w t : Quarter) → fits v w t ≡ true → is_zero (p u v w t) ≡ true
zero4_at p h u v w t k = unless_so (fits v w t) (is_zero (p u v w t)) (all4_at (test u v w) at3 t) k
  where
    test : Quarter → Quarter → Quarter → Quarter → Bool
    test u v w t = unless (fits v w t) (is_zero (p u v w t))

    at1 : all4 (λ v. all4 (λ w. all4 (test u v w))) ≡ true
    at1 = all4_at (λ u. all4 (λ v. all4 (λ w. all4 (test u v w)))) h u

    at2 : all4 (λ w. all4 (test u v w)) ≡ true
    at2 = all4_at (λ v. all4 (λ w. all4 (test u v w))) at1 v

    at3 : all4 (test u v w) ≡ true
    at3 = all4_at (λ w. all4 (test u v w)) at2 w
