-- Words that act on no qubit in common commute; a quarter turn about a word keeps which words commute. Assumes nothing.
use Rattle.std.specs.Prelude.{◌≡◌, refl, ◌⊎◌, List, ℕ, zero, suc, ◌+◌, ◌*◌, ◌/◌, ◌%◌, ◌^◌, ◌≤◌, ◌<◌}
use Rattle.std.proofs.Common.{sym, ap, ap₂, ◌∙◌, inl, inr, ⊎_elim, arith}
use Rattle.std.proofs.Math.Decide.{ℕ_discrete}
use Rattle.bits.specs.Remainder.{lt_or_ge, same4}
use Rattle.bits.specs.Digit.{Digit, off, on}
use Rattle.bits.specs.Bit.{bit, bit_digit, bit_bit_and, bit_ext, bit_high, zero_bit}
use Rattle.bits.specs.Sum.{sum_to, sum_cong}
use Rattle.pauli.specs.Word.{x_word, z_word, IsWord, common, ν, cross, xor_words, phase, symplectic, anticommutes}
use Rattle.pauli.specs.Letter.{letter_of, letter_at, single}
use Rattle.pauli.specs.ProductLaws.{common_comm, common_none, symplectic_comm, symplectic_self, symplectic_xor, symplectic_lt}
use Rattle.pauli.specs.ProductLaws.{anticommutes_true, anticommutes_false}
use Rattle.pauli.specs.LetterLaws.{letter_mul, letter_xor, single_word, single_elsewhere, xor_words_word, is_y, ν-letters}
use Rattle.model.specs.Lists.{when◌then◌else◌}
use Rattle.theory.specs.Cases.{on_if}

-- ---- nothing in common

-- I changes no letter
pub mul_one : (c : ℕ) → letter_mul c 0 ≡ c
mul_one zero = refl
mul_one (suc c) = refl

sum_plus : (f g : ℕ → ℕ) (n : ℕ) → sum_to (λ i. f i + g i) n ≡ sum_to f n + sum_to g n
unfolding sum_to
sum_plus f g zero = refl
sum_plus f g (suc n) = omega (arith, sum_plus f g n)

-- letter I has neither bit
no_bits : {x z : ℕ} → Digit x → Digit z → letter_of x z ≡ 0 → (x ≡ 0) × (z ≡ 0)
no_bits off off h = (refl, refl)
no_bits off on h = absurd (omega arith)
no_bits on off h = absurd (omega arith)
no_bits on on h = absurd (omega arith)

-- the bits of qubit 64 j + t, where the letter is I
bits_at : (l : ℕ) (p : List ℕ) (j t : ℕ) → t < 64 → letter_at l p (64 * j + t) ≡ 0 → (bit (x_word p j) t ≡ 0) × (bit (z_word l p j) t ≡ 0)
bits_at l p j t b h =
    let d : (64 * j + t) / 64 ≡ j = omega arith in
    let m : (64 * j + t) % 64 ≡ t = omega arith in
    no_bits (bit_digit _ t) (bit_digit _ t) (rw (d, m) at h)

-- two planes, of which at each qubit one has no bit
planes_apart : (l : ℕ) (f g : ℕ → ℕ) → ((j : ℕ) → f j < 2 ^ 64)
    → ((j t : ℕ) → j < l → t < 64 → (bit (f j) t ≡ 0) ⊎ (bit (g j) t ≡ 0)) → common f g l ≡ 0
planes_apart l f g fits h =
    common_none f g l (λ j b. bit_ext _ 0 (λ t. bit_bit_and (f j) (g j) t ∙ ⊎_elim
    (λ (lt : t < 64). ⊎_elim (λ (e : bit (f j) t ≡ 0). omega arith) (λ (e : bit (g j) t ≡ 0). omega arith) (h j t b lt))
    (λ (ge : 64 ≤ t). omega (arith, bit_high (f j) 64 t (fits j) ge))
    (lt_or_ge t 64) ∙ sym (zero_bit t)))

-- at each qubit one of the two words has I
abbrev pub Apart : ℕ → List ℕ → List ℕ → Type 0
Apart l p q = (i : ℕ) → i < 64 * l → (letter_at l p i ≡ 0) ⊎ (letter_at l q i ≡ 0)

module _ (l : ℕ) (p q : List ℕ) (word : IsWord l p) (apart : Apart l p q) where
  apart_cross : cross l p q ≡ 0
  apart_cross =
      planes_apart l (z_word l p) (x_word q) (λ j. word.fits (l + j)) (λ j t a b. ⊎_elim
      (λ (e : letter_at l p (64 * j + t) ≡ 0). inl (bits_at l p j t b e).1)
      (λ (e : letter_at l q (64 * j + t) ≡ 0). inr (bits_at l q j t b e).0) (apart (64 * j + t) (omega arith)))

  apart_back : cross l q p ≡ 0
  apart_back =
      common_comm (z_word l q) (x_word p) l ∙ planes_apart l (x_word p) (z_word l q) word.fits (λ j t a b. ⊎_elim
      (λ (e : letter_at l p (64 * j + t) ≡ 0). inl (bits_at l p j t b e).0)
      (λ (e : letter_at l q (64 * j + t) ≡ 0). inr (bits_at l q j t b e).1) (apart (64 * j + t) (omega arith)))

  -- they commute
  pub apart_commute : symplectic l p q ≡ 0
  unfolding symplectic
  apart_commute = omega (arith, apart_cross, apart_back)

  -- the letters Y of both
  apart-ν : IsWord l q → ν l (xor_words p q) ≡ ν l p + ν l q
  apart-ν other =
      ν-letters l (xor_words p q) (xor_words_word l p q word other)
      ∙ sum_cong _ (λ i. is_y (letter_at l p i) + is_y (letter_at l q i)) (64 * l) (λ i b. ap is_y (letter_xor l p q i) ∙ one i (apart i b))
      ∙ sum_plus (λ i. is_y (letter_at l p i)) (λ i. is_y (letter_at l q i)) (64 * l)
      ∙ ap₂ (λ (m n : ℕ). m + n) (sym (ν-letters l p word)) (sym (ν-letters l q other))
    where
      one : (i : ℕ) → (letter_at l p i ≡ 0) ⊎ (letter_at l q i ≡ 0)
          → is_y (letter_mul (letter_at l p i) (letter_at l q i)) ≡ is_y (letter_at l p i) + is_y (letter_at l q i)
      one i (inl e) = rw e (omega arith)
      one i (inr e) = rw (e, mul_one (letter_at l p i)) (omega arith)

  -- their product has no phase
  pub apart_phase : IsWord l q → phase l p q ≡ 0
  unfolding phase
  apart_phase other = same4 _ 0 0 (ν l p + ν l q) (omega (arith, apart-ν other, apart_cross))

-- one letter commutes with a word that has I there
pub single_commutes : (l q c : ℕ) (w : List ℕ) → q < 64 * l → letter_at l w q ≡ 0 → symplectic l (single l q c) w ≡ 0
single_commutes l q c w b h = apart_commute l (single l q c) w (single_word l q c b) (λ i k. go i k (ℕ_discrete i q))
  where
    go : (i : ℕ) → i < 64 * l → Dec (i ≡ q) → (letter_at l (single l q c) i ≡ 0) ⊎ (letter_at l w i ≡ 0)
    go i k (yes e) = inr (rw e h)
    go i k (no n) = inl (single_elsewhere l q c b i k n)

-- letters of two qubits
pub singles_commute : (l q c r d : ℕ) → q < 64 * l → r < 64 * l → (q ≡ r → ⊥) → symplectic l (single l q c) (single l r d) ≡ 0
singles_commute l q c r d b k n = single_commutes l q c (single l r d) b (single_elsewhere l r d k q b n)

-- ---- a quarter turn about b: what anticommutes with b is multiplied by it

unfoldable pub quarter_turned : ℕ → List ℕ → List ℕ → List ℕ
quarter_turned l b p = when anticommutes l b p then xor_words b p else p

-- on the left, as `symplectic-xor` on the right
pub xor_symplectic : (l : ℕ) (p q r : List ℕ) → symplectic l (xor_words q r) p ≡ (symplectic l q p + symplectic l r p) % 2
xor_symplectic l p q r =
    symplectic_comm l (xor_words q r) p ∙ symplectic_xor l p q r ∙ omega (arith, symplectic_comm l p q, symplectic_comm l p r)

-- two words commute or anticommute as before
pub quarter_turned_symplectic : (l : ℕ) (b p q : List ℕ) → symplectic l (quarter_turned l b p) (quarter_turned l b q) ≡ symplectic l p q
unfolding quarter_turned
quarter_turned_symplectic l b p q =
    on_if (λ (u : List ℕ). symplectic l u (when anticommutes l b q then xor_words b q else q) ≡ symplectic l p q) (anticommutes l b p) _ _
    (λ e. on_if (λ (v : List ℕ). symplectic l (xor_words b p) v ≡ symplectic l p q) (anticommutes l b q) _ _
    (λ f. both (anticommutes_true l b p e) (anticommutes_true l b q f)) (λ f. left (anticommutes_false l b q f)))
    (λ e. on_if (λ (v : List ℕ). symplectic l p v ≡ symplectic l p q) (anticommutes l b q) _ _
    (λ f. right (anticommutes_false l b p e)) (λ f. refl))
  where
    left : symplectic l b q ≡ 0 → symplectic l (xor_words b p) q ≡ symplectic l p q
    left f = omega (arith, xor_symplectic l q b p, symplectic_lt l p q)

    right : symplectic l b p ≡ 0 → symplectic l p (xor_words b q) ≡ symplectic l p q
    right e = omega (arith, symplectic_xor l p b q, symplectic_comm l p b, symplectic_lt l p q)

    both : symplectic l b p ≡ 1 → symplectic l b q ≡ 1 → symplectic l (xor_words b p) (xor_words b q) ≡ symplectic l p q
    both e f =
        omega (
          arith,
          xor_symplectic l (xor_words b q) b p,
          symplectic_xor l b b q,
          symplectic_xor l p b q,
          symplectic_self l b,
          symplectic_comm l p b,
          symplectic_lt l p q,
        )
