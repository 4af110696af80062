-- The laws of the product, for every width l. Assumes nothing.
use Rattle.std.specs.Prelude.{◌≡◌, refl, true, false, List, [], ◌∷◌, ℕ, zero, suc, ◌+◌, ◌*◌, ◌%◌, ◌≤◌, ◌<◌, length, get_or, replicate}
use Rattle.std.proofs.Common.{sym, ap, ap₂, ◌∙◌, arith, add-one, eqb-true, eq-eqb, ne_eqb}
use Rattle.std.proofs.lemmas.Bool.{eqb-false}
use Rattle.std.specs.Int.Bits.{bit_and, bit_xor, xor_zero_r, xor_self}
use Rattle.std.proofs.lemmas.Nat.{xor_comm, and_comm}
use Rattle.bits.specs.Bit.{xor_assoc}
use Rattle.bits.specs.Popcount.{popcount, popcount_zero, popcount_and_xor}
use Rattle.bits.specs.Remainder.{same4, same2, sum4, sum2, double4}
use Rattle.pauli.specs.Word.{x_word, z_word, common, ν, cross, identity, xor_words, phase, symplectic, anticommutes}

-- ---- the exclusive or of words

pub xor_words_at : (p q : List ℕ) (j : ℕ) → get_or (xor_words p q) j 0 ≡ bit_xor (get_or p j 0) (get_or q j 0)
unfolding xor_words
xor_words_at [] q j = refl
xor_words_at (a ∷ p) [] j = sym (xor_zero_r (get_or (a ∷ p) j 0))
xor_words_at (a ∷ p) (b ∷ q) zero = refl
xor_words_at (a ∷ p) (b ∷ q) (suc j) = xor_words_at p q j

pub xor_words_comm : (p q : List ℕ) → xor_words p q ≡ xor_words q p
unfolding xor_words
xor_words_comm [] [] = refl
xor_words_comm [] (b ∷ q) = refl
xor_words_comm (a ∷ p) [] = refl
xor_words_comm (a ∷ p) (b ∷ q) = ap₂ (λ (x : ℕ) (r : List ℕ). x ∷ r) (xor_comm a b) (xor_words_comm p q)

pub xor_words_assoc : (p q r : List ℕ) → xor_words (xor_words p q) r ≡ xor_words p (xor_words q r)
unfolding xor_words
xor_words_assoc [] q r = refl
xor_words_assoc (a ∷ p) [] r = refl
xor_words_assoc (a ∷ p) (b ∷ q) [] = refl
xor_words_assoc (a ∷ p) (b ∷ q) (c ∷ r) = ap₂ (λ (x : ℕ) (s : List ℕ). x ∷ s) (xor_assoc a b c) (xor_words_assoc p q r)

pub xor_words_self : (p : List ℕ) → xor_words p p ≡ replicate (length p) 0
unfolding xor_words
xor_words_self [] = refl
xor_words_self (a ∷ p) = ap₂ (λ (x : ℕ) (s : List ℕ). x ∷ s) (xor_self a) (xor_words_self p)

pub xor_words_length : (p q : List ℕ) → length p ≡ length q → length (xor_words p q) ≡ length p
unfolding xor_words
xor_words_length [] q h = sym h
xor_words_length (a ∷ p) [] h = refl
xor_words_length (a ∷ p) (b ∷ q) h = ap suc (xor_words_length p q (omega arith))

pub xor_words_zero : (n : ℕ) (q : List ℕ) → n ≤ length q → xor_words (replicate n 0) q ≡ q
unfolding xor_words
xor_words_zero zero q h = refl
xor_words_zero (suc n) [] h = absurd (omega arith)
xor_words_zero (suc n) (b ∷ q) h = ap (λ (s : List ℕ). b ∷ s) (xor_words_zero n q (omega arith))

-- p twice leaves q
pub xor_words_twice : (p q : List ℕ) → length p ≤ length q → xor_words p (xor_words p q) ≡ q
xor_words_twice p q h = sym (xor_words_assoc p p q) ∙ rw xor_words_self (xor_words_zero (length p) q h)

-- ---- counting common bits

pub common_comm : (f g : ℕ → ℕ) (n : ℕ) → common f g n ≡ common g f n
unfolding common
common_comm f g zero = refl
common_comm f g (suc n) = ap₂ (λ (x y : ℕ). x + popcount y) (common_comm f g n) (and_comm (f n) (g n))

-- one word more, as a loop counts
pub common_more : (f g : ℕ → ℕ) (n : ℕ) → common f g (n + 1) ≡ common f g n + popcount (bit_and (f n) (g n))
unfolding common
common_more f g n = rw add-one refl

pub common_none : (f g : ℕ → ℕ) (n : ℕ) → ((j : ℕ) → j < n → bit_and (f j) (g j) ≡ 0) → common f g n ≡ 0
unfolding common
common_none f g zero h = refl
common_none f g (suc n) h = rw (h n (omega arith)) (omega (arith, popcount_zero, common_none f g n (λ j b. h j (omega arith))))

common_zero : (f g : ℕ → ℕ) (n : ℕ) → ((j : ℕ) → f j ≡ 0) → common f g n ≡ 0
common_zero f g n e = common_none f g n (λ j b. ap (λ (x : ℕ). bit_and x (g j)) (e j))

-- h is f xor g: it has as many bits in common with k as f and g have, less an even number
common_xor : (f g h k : ℕ → ℕ) (n : ℕ) → ((j : ℕ) → h j ≡ bit_xor (f j) (g j))
    → (t : ℕ) × (common h k n + 2 * t ≡ common f k n + common g k n)
unfolding common
common_xor f g h k zero e = (0, refl)
common_xor f g h k (suc n) e =
    let m = common_xor f g h k n e in
    (m.0 + popcount (bit_and (bit_and (f n) (k n)) (bit_and (g n) (k n))), rw (e n) (omega (arith, popcount_and_xor (f n) (g n) (k n))))

-- ---- bilinear modulo 2: the exact equations have twice a number more

cross_self : (l : ℕ) (p : List ℕ) → cross l p p ≡ ν l p
cross_self l p = common_comm (z_word l p) (x_word p) l

cross_left : (l : ℕ) (p q r : List ℕ) → (k : ℕ) × (cross l (xor_words p q) r + 2 * k ≡ cross l p r + cross l q r)
cross_left l p q r = common_xor (z_word l p) (z_word l q) (z_word l (xor_words p q)) (x_word r) l (λ j. xor_words_at p q (l + j))

cross_right : (l : ℕ) (p q r : List ℕ) → (k : ℕ) × (cross l r (xor_words p q) + 2 * k ≡ cross l r p + cross l r q)
cross_right l p q r =
    let m = common_xor (x_word p) (x_word q) (x_word (xor_words p q)) (z_word l r) l (xor_words_at p q) in
    let flip : (s : List ℕ) → common (z_word l r) (x_word s) l ≡ common (x_word s) (z_word l r) l = λ s. common_comm (z_word l r) (x_word s) l in
    (m.0, omega (arith, flip (xor_words p q), flip p, flip q))

ν-xor : (l : ℕ) (p q : List ℕ) → (k : ℕ) × (ν l (xor_words p q) + 2 * k ≡ ν l p + ν l q + cross l p q + cross l q p)
ν-xor l p q =
    let a = cross_left l p q (xor_words p q) in
    let b = cross_right l p q p in
    let c = cross_right l p q q in
    (a.0 + b.0 + c.0, omega (arith, cross_self l (xor_words p q), cross_self l p, cross_self l q, a.1, b.1, c.1))

-- ---- anticommutation

pub symplectic_comm : (l : ℕ) (p q : List ℕ) → symplectic l p q ≡ symplectic l q p
unfolding symplectic
symplectic_comm l p q = omega arith

pub symplectic_self : (l : ℕ) (p : List ℕ) → symplectic l p p ≡ 0
unfolding symplectic
symplectic_self l p = omega arith

pub symplectic_lt : (l : ℕ) (p q : List ℕ) → symplectic l p q < 2
unfolding symplectic
symplectic_lt l p q = omega arith

pub symplectic_xor : (l : ℕ) (p q r : List ℕ) → symplectic l p (xor_words q r) ≡ (symplectic l p q + symplectic l p r) % 2
unfolding symplectic
symplectic_xor l p q r =
    let a = cross_left l q r p in
    let b = cross_right l q r p in
    rw sum2 (same2 _ _ (a.0 + b.0) 0 (omega arith))

-- what the Bool says, both ways
pub anticommutes_true : (l : ℕ) (p q : List ℕ) → anticommutes l p q ≡ true → symplectic l p q ≡ 1
unfolding anticommutes
anticommutes_true l p q e = eqb-true (symplectic l p q) 1 e

pub anticommutes_false : (l : ℕ) (p q : List ℕ) → anticommutes l p q ≡ false → symplectic l p q ≡ 0
unfolding anticommutes
anticommutes_false l p q e =
    let n : symplectic l p q ≡ 1 → ⊥ = eqb-false (symplectic l p q) 1 e in
    omega (arith, symplectic_lt l p q)

pub anticommutes_one : (l : ℕ) (p q : List ℕ) → symplectic l p q ≡ 1 → anticommutes l p q ≡ true
unfolding anticommutes
anticommutes_one l p q e = eq-eqb (symplectic l p q) 1 e

pub anticommutes_none : (l : ℕ) (p q : List ℕ) → symplectic l p q ≡ 0 → anticommutes l p q ≡ false
unfolding anticommutes
anticommutes_none l p q e = ne_eqb (symplectic l p q) 1 (λ f. omega arith)

-- ---- the phase

pub phase_lt : (l : ℕ) (p q : List ℕ) → phase l p q < 4
unfolding phase
phase_lt l p q = omega arith

-- "A product of two words has an odd phase exactly when they anticommute"
pub phase_odd : (l : ℕ) (p q : List ℕ) → phase l p q % 2 ≡ symplectic l p q
unfolding phase symplectic
phase_odd l p q = omega (arith, (ν-xor l p q).1)

-- swapping adds 2 exactly where they anticommute
pub phase_swap : (l : ℕ) (p q : List ℕ) → (phase l p q + 2 * symplectic l p q) % 4 ≡ phase l q p
unfolding phase symplectic
phase_swap l p q = rw (xor_words_comm q p) (omega arith)

-- (PQ)R is P(QR)
pub phase_cocycle : (l : ℕ) (p q r : List ℕ)
    → (phase l p q + phase l (xor_words p q) r) % 4 ≡ (phase l q r + phase l p (xor_words q r)) % 4
unfolding phase
phase_cocycle l p q r =
    let a = cross_left l p q r in
    let b = cross_right l q r p in
    rw (xor_words_assoc p q r, sum4, sum4) (same4 _ _ (ν l (xor_words q r) + a.0) (ν l (xor_words p q) + b.0) (omega arith))

-- PP is the identity: its word is `xorWords-self`
pub phase_self : (l : ℕ) (p : List ℕ) → phase l p p ≡ 0
unfolding phase
phase_self l p =
    let r = xor_words p p in
    let none : ν l r ≡ 0 = common_zero (x_word r) (z_word l r) l (λ j. xor_words_at p p j ∙ xor_self (get_or p j 0)) in
    same4 _ 0 0 (ν l p) (omega (arith, cross_self l p))

pub zeros_at : (n j : ℕ) → get_or {A = ℕ} (replicate n 0) j 0 ≡ 0
zeros_at zero j = refl
zeros_at (suc n) zero = refl
zeros_at (suc n) (suc j) = zeros_at n j

pub phase_identity : (l : ℕ) (q : List ℕ) → length q ≡ 2 * l → phase l (identity l) q ≡ 0
unfolding phase
phase_identity l q n =
    let i = identity l in
    let a : ν l i ≡ 0 = common_zero (x_word i) (z_word l i) l (zeros_at (2 * l)) in
    let b : cross l i q ≡ 0 = common_zero (z_word l i) (x_word q) l (λ j. zeros_at (2 * l) (l + j)) in
    rw (xor_words_zero (2 * l) q (omega arith)) (same4 _ 0 0 (ν l q) (omega arith))

-- the identity commutes with every word
pub symplectic_identity : (l : ℕ) (q : List ℕ) → length q ≡ 2 * l → symplectic l (identity l) q ≡ 0
symplectic_identity l q n = sym (phase_odd l (identity l) q) ∙ ap (λ (e : ℕ). e % 2) (phase_identity l q n)

-- PQP is Q, with a sign where they anticommute
pub phase_conjugate : (l : ℕ) (p q : List ℕ) → length p ≤ length q
    → (phase l p q + phase l (xor_words p q) p) % 4 ≡ 2 * symplectic l p q
unfolding phase symplectic
phase_conjugate l p q n =
    let back : xor_words (xor_words p q) p ≡ q = xor_words_comm (xor_words p q) p ∙ xor_words_twice p q n in
    let k = cross_left l p q p in
    rw (back, sum4) (double4 _ _ k.0 (ν l p + ν l q + ν l (xor_words p q)) (omega (arith, cross_self l p)))
