-- The support of a word is the qubits that it acts on, each once, rising. Assumes nothing.
use Rattle.std.specs.Prelude.{◌≡◌, refl, true}
use Rattle.std.proofs.Common.{sym, ◌∙◌, add-zero, eqb-true}
use Rattle.std.proofs.Math.Path.{ap, subst}
use mathlib.Core.List.{List, [], ◌∷◌, ◌++◌, map, flatten}
use Prim.Native.Nat.{ℕ, zero, suc, ◌+◌, ◌*◌, ◌/◌, ◌%◌, ◌≤◌, ◌<◌}
use native.Mathlib.Omega.{arith}
use Rattle.std.specs.Int.Bits.{bit_or}
use Rattle.bits.specs.Bit.{bit, zero_bit}
use Rattle.pauli.specs.Word.{x_word, z_word}
use Rattle.pauli.specs.Letter.{acts}
use Rattle.pauli.specs.LetterLaws.{acts_bit}
use Rattle.model.specs.Lists.{numbers_from, is_odd}
use Rattle.model.specs.Words.{set_bits, support}
use Rattle.theory.specs.Cases.{by_if, on_if, if_true}
use Rattle.theory.specs.Every.{Every, every_joined, every_part}

-- ---- the set bits of a number

-- what holds of every set bit's qubit holds of the list
pub set_bits_all : (P : ℕ → Type 0) (k q n : ℕ) → ((t : ℕ) → t < k → bit n t ≡ 1 → P (q + t)) → Every P (set_bits k q n)
unfolding set_bits
set_bits_all P zero q n h = tt
set_bits_all P (suc k) q zero h = tt
set_bits_all P (suc k) q (suc n) h =
    let rest = set_bits_all P k (suc q) (suc n / 2) (λ t b e. subst P (later t) (h (suc t) (omega arith) (unfold bit in e))) in
    on_if (Every P) (is_odd (suc n)) _ _ (λ e. (subst P (add-zero q) (h 0 (omega arith) (unfold bit in (eqb-true _ 1 e))), rest)) (λ e. rest)
  where
    later : (t : ℕ) → q + suc t ≡ suc q + t
    later t = omega arith

-- and the other way round
pub set_bits_each : (P : ℕ → Type 0) (k q n : ℕ) → Every P (set_bits k q n) → (t : ℕ) → t < k → bit n t ≡ 1 → P (q + t)
unfolding set_bits
set_bits_each P zero q n h t b e = absurd (omega arith)
set_bits_each P (suc k) q zero h t b e = absurd (omega (arith, zero_bit t))
set_bits_each P (suc k) q (suc n) h zero b e =
    subst P (sym (add-zero q)) (subst (Every P) (if_true _ _ odd) h).0
  where
    odd : is_odd (suc n) ≡ true
    odd = unfold bit in (rw e refl)
set_bits_each P (suc k) q (suc n) h (suc t) b e =
    subst P (omega arith) (set_bits_each P k (suc q) (suc n / 2) (by_if (λ (xs : List ℕ). Every P xs → Every P (set_bits k (suc q) (suc n / 2)))
    (is_odd (suc n)) _ _ (λ x. x.1) (λ x. x) h) t (omega arith) (unfold bit in e))

-- ---- the support

module _ (l : ℕ) (w : List ℕ) where
  -- number j of both planes together
  abbrev planes : ℕ → ℕ
  planes j = bit_or (x_word w j) (z_word l w j)

  abbrev qubits_at : ℕ → List ℕ
  qubits_at j = set_bits 64 (64 * j) (planes j)

  -- what holds of every qubit that the word acts on holds of its support
  pub support_all : (P : ℕ → Type 0) → ((q : ℕ) → q < 64 * l → acts l w q ≡ 1 → P q) → Every P (support l w)
  unfolding support
  support_all P h =
      every_joined P qubits_at 0 l (λ j a b. set_bits_all P 64 (64 * j) (planes j) (λ t c e. h (64 * j + t) (omega arith) (acts_bit l w j t c ∙ e)))

  -- and the other way round
  pub support_each : (P : ℕ → Type 0) → Every P (support l w) → (q : ℕ) → q < 64 * l → acts l w q ≡ 1 → P q
  unfolding support
  support_each P h q b e =
      let j = q / 64 in
      let t = q % 64 in
      let at : 64 * j + t ≡ q = omega arith in
      let some : acts l w (64 * j + t) ≡ 1 = ap (acts l w) at ∙ e in
      subst P at (set_bits_each P 64 (64 * j) (planes j) (every_part P qubits_at 0 l j (omega arith) (omega arith) h) t (omega arith)
      (sym (acts_bit l w j t (omega arith)) ∙ some))

-- ---- rising

-- the numbers of the list rise, from lo on, and are below hi
abbrev pub Rising : ℕ → ℕ → List ℕ → Type 0
Rising lo hi [] = lo ≤ hi
Rising lo hi (q ∷ qs) = (lo ≤ q) × Rising (suc q) hi qs

-- so there is room
pub rising_le : (lo hi : ℕ) (qs : List ℕ) → Rising lo hi qs → lo ≤ hi
rising_le lo hi [] h = h
rising_le lo hi (q ∷ qs) h = omega (arith, rising_le (suc q) hi qs h.1)

rising_from : (lo less hi : ℕ) (qs : List ℕ) → less ≤ lo → Rising lo hi qs → Rising less hi qs
rising_from lo less hi [] b h = omega arith
rising_from lo less hi (q ∷ qs) b h = (omega arith, h.1)

rising_append : (lo mid hi : ℕ) (xs ys : List ℕ) → Rising lo mid xs → Rising mid hi ys → Rising lo hi (xs ++ ys)
rising_append lo mid hi [] ys h k = rising_from mid lo hi ys h k
rising_append lo mid hi (x ∷ xs) ys h k = (h.0, rising_append (suc x) mid hi xs ys h.1 k)

pub set_bits_rising : (k q n : ℕ) → Rising q (q + k) (set_bits k q n)
unfolding set_bits
set_bits_rising zero q n = omega arith
set_bits_rising (suc k) q zero = omega arith
set_bits_rising (suc k) q (suc n) =
    let rest = subst (λ (hi : ℕ). Rising (suc q) hi (set_bits k (suc q) (suc n / 2))) (end q k) (set_bits_rising k (suc q) (suc n / 2)) in
    by_if (Rising q (q + suc k)) (is_odd (suc n)) _ _ (omega arith, rest)
    (rising_from (suc q) q (q + suc k) (set_bits k (suc q) (suc n / 2)) (omega arith) rest)
  where
    end : (q k : ℕ) → suc q + k ≡ q + suc k
    end q k = omega arith

joined_rising : (l : ℕ) (w : List ℕ) (i n : ℕ) → Rising (64 * i) (64 * (i + n)) (flatten (map (qubits_at l w) (numbers_from i n)))
unfolding flatten numbers_from
joined_rising l w i zero = omega arith
joined_rising l w i (suc n) =
    rising_append (64 * i) (64 * suc i) (64 * (i + suc n)) (qubits_at l w i) _
    (subst (λ (hi : ℕ). Rising (64 * i) hi (qubits_at l w i)) (omega arith) (set_bits_rising 64 (64 * i) (planes l w i)))
    (subst (λ (hi : ℕ). Rising (64 * suc i) hi (flatten (map (qubits_at l w) (numbers_from (suc i) n)))) (omega arith) (joined_rising l w (suc i) n))

-- the support's qubits rise, and are qubits of a word of l numbers in each plane
pub support_rising : (l : ℕ) (w : List ℕ) → Rising 0 (64 * l) (support l w)
unfolding support
support_rising l w = subst (λ (hi : ℕ). Rising 0 hi (flatten (map (qubits_at l w) (numbers_from 0 l)))) (omega arith) (joined_rising l w 0 l)
