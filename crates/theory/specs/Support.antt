-- Going through a word's support, and going through all its qubits. Assumes nothing.
use Rattle.std.specs.Prelude.{◌≡◌}
use Rattle.std.proofs.Math.Path.{refl, sym, ap, subst}
use Rattle.std.proofs.Common.{◌∙◌, zero-add, suc-add, eqb-true}
use mathlib.Core.List.{List, [], ◌∷◌, ◌++◌, map, flatten}
use Prim.Native.Nat.{ℕ, zero, suc, ◌+◌, ◌*◌, ◌/◌, ◌%◌, ◌≤◌, ◌<◌}
use native.Mathlib.Omega.{arith}
use Rattle.std.proofs.Math.Decide.{ℕ_discrete}
use Rattle.std.specs.Int.Bits.{bit_or}
use Rattle.std.proofs.lemmas.Bool.{eqb-false}
use Rattle.bits.specs.Bit.{bit, zero_bit}
use Rattle.bits.specs.Digit.{low, digit_none}
use Rattle.pauli.specs.Word.{x_word, z_word}
use Rattle.pauli.specs.Letter.{acts}
use Rattle.pauli.specs.LetterLaws.{acts_bit}
use Rattle.model.specs.Lists.{numbers_from, is_odd}
use Rattle.model.specs.Words.{set_bits, support}
use Rattle.theory.specs.Cases.{on_if}
use Rattle.theory.specs.Every.{Every}

-- one step for each number of a list
unfoldable pub walk : {A : Type 0} → (A → ℕ → A) → A → List ℕ → A
walk f v [] = v
walk f v (q ∷ qs) = walk f (f v q) qs

pub walk_append : {A : Type 0} (f : A → ℕ → A) (v : A) (xs ys : List ℕ) → walk f v (xs ++ ys) ≡ walk f (walk f v xs) ys
unfolding walk
walk_append f v [] ys = refl
walk_append f v (x ∷ xs) ys = walk_append f (f v x) xs ys

pub numbers_append : (a m n : ℕ) → numbers_from a (m + n) ≡ numbers_from a m ++ numbers_from (a + m) n
unfolding numbers_from
numbers_append a zero n =
    let e : a + 0 ≡ a = omega arith in
    ap (numbers_from a) (zero-add n) ∙ ap (λ b. numbers_from b n) (sym e)
numbers_append a (suc m) n =
    let e : suc a + m ≡ a + suc m = omega arith in
    ap (numbers_from a) (suc-add m n) ∙ ap (λ xs. a ∷ xs) (numbers_append (suc a) m n ∙ ap (λ b. numbers_from (suc a) m ++ numbers_from b n) e)

-- a walk whose steps do nothing
walk_still : {B : Type 0} (g : B → ℕ → B) (a k : ℕ) → ((i : ℕ) → i < k → (v : B) → g v (a + i) ≡ v) → (v : B)
    → walk g v (numbers_from a k) ≡ v
unfolding walk numbers_from
walk_still g a zero h v = refl
walk_still g a (suc k) h v =
    let e : a + 0 ≡ a = omega arith in
    walk_still g (suc a) k (λ i b u. subst (λ (n : ℕ). g u n ≡ u) (shift i) (h (suc i) (omega arith) u)) (g v a)
    ∙ subst (λ (n : ℕ). g v n ≡ v) e (h 0 (omega arith) v)
  where
    shift : (i : ℕ) → a + suc i ≡ suc a + i
    shift i = omega arith

-- ---- the set bits of a number: f walks over them as g walks over all places, where g does nothing at the others

module _ {A B : Type 0} (out : B → A) (f : A → ℕ → A) (g : B → ℕ → B) where
  -- what f and g do at a place, by its bit
  abbrev Same : ℕ → ℕ → Type 0
  Same d q = (d ≡ 1 → (v : B) → f (out v) q ≡ out (g v q)) × (d ≡ 0 → (v : B) → g v q ≡ v)

  walk_bits : (k q n : ℕ) → ((i : ℕ) → i < k → Same (bit n i) (q + i)) → (v : B)
      → walk f (out v) (set_bits k q n) ≡ out (walk g v (numbers_from q k))
  unfolding walk set_bits numbers_from bit
  walk_bits zero q n h v = refl
  walk_bits (suc k) q zero h v = ap out (sym (walk_still g q (suc k) (λ i b u. (h i b).1 (zero_bit i) u) v))
  walk_bits (suc k) q (suc n) h v =
      let rest = set_bits k (suc q) (suc n / 2) in
      let shifted : (i : ℕ) → i < k → Same (bit (suc n / 2) i) (suc q + i) =
      λ i b. subst (λ (j : ℕ). Same (bit (suc n / 2) i) j) (shift i) (h (suc i) (omega arith)) in
      let ih = walk_bits k (suc q) (suc n / 2) shifted (g v q) in
      on_if (λ qs. walk f (out v) qs ≡ out (walk g (g v q) (numbers_from (suc q) k))) (is_odd (suc n)) (q ∷ rest) rest
      (λ e. ap (λ u. walk f u rest) (here.0 (eqb-true (suc n % 2) 1 e) v) ∙ ih)
      (λ e. ap (λ u. walk f (out u) rest) (sym (here.1 (digit_none (low (suc n)) (eqb-false (suc n % 2) 1 e)) v)) ∙ ih)
    where
      here : Same (suc n % 2) q
      here = let e : q + 0 ≡ q = omega arith in subst (λ (j : ℕ). Same (suc n % 2) j) e (h 0 (omega arith))

      shift : (i : ℕ) → q + suc i ≡ suc q + i
      shift i = omega arith

  module _ (l : ℕ) (w : List ℕ) (h : (q : ℕ) → q < 64 * l → Same (acts l w q) q) where
    -- the qubits of word j
    abbrev place : ℕ → List ℕ
    place j = set_bits 64 (64 * j) (bit_or (x_word w j) (z_word l w j))

    walk_place : (j : ℕ) → j < l → (v : B) → walk f (out v) (place j) ≡ out (walk g v (numbers_from (64 * j) 64))
    walk_place j b =
        walk_bits 64 (64 * j) (bit_or (x_word w j) (z_word l w j))
        (λ i c. subst (λ (d : ℕ). Same d (64 * j + i)) (acts_bit l w j i c) (h (64 * j + i) (omega arith)))

    walk_places : (m j : ℕ) → j + m ≤ l → (v : B)
        → walk f (out v) (flatten (map place (numbers_from j m))) ≡ out (walk g v (numbers_from (64 * j) (64 * m)))
    unfolding walk numbers_from flatten
    walk_places zero j b v = refl
    walk_places (suc m) j b v =
        let e : 64 * suc m ≡ 64 + 64 * m = omega arith in
        let e' : 64 * j + 64 ≡ 64 * suc j = omega arith in
        walk_append f (out v) (place j) (flatten (map place (numbers_from (suc j) m)))
        ∙ ap (λ u. walk f u (flatten (map place (numbers_from (suc j) m)))) (walk_place j (omega arith) v)
        ∙ walk_places m (suc j) (omega arith) (walk g v (numbers_from (64 * j) 64))
        ∙ ap out
        (ap (λ (a : ℕ). walk g (walk g v (numbers_from (64 * j) 64)) (numbers_from a (64 * m))) (sym e')
        ∙ sym (walk_append g v (numbers_from (64 * j) 64) (numbers_from (64 * j + 64) (64 * m)))
        ∙ ap (walk g v) (sym (ap (numbers_from (64 * j)) e ∙ numbers_append (64 * j) 64 (64 * m))))

    pub walk_support : (v : B) → walk f (out v) (support l w) ≡ out (walk g v (numbers_from 0 (64 * l)))
    unfolding support
    walk_support v = walk_places l 0 (omega arith) v

-- ---- a qubit that is not in the support

abbrev pub Absent : ℕ → List ℕ → Type 0
Absent q = Every (λ x. x ≡ q → ⊥)

absent_append : (q : ℕ) (xs ys : List ℕ) → Absent q (xs ++ ys) → Absent q xs × Absent q ys
absent_append q [] ys h = (tt, h)
absent_append q (x ∷ xs) ys h = let r = absent_append q xs ys h.1 in ((h.0, r.0), r.1)

absent_bits : (k q n i : ℕ) → i < k → Absent (q + i) (set_bits k q n) → bit n i ≡ 0
unfolding set_bits bit
absent_bits zero q n i b h = absurd (omega arith)
absent_bits (suc k) q zero i b h = zero_bit i
absent_bits (suc k) q (suc n) zero b h =
    let rest = set_bits k (suc q) (suc n / 2) in
    on_if (λ qs. Absent (q + 0) qs → suc n % 2 ≡ 0) (is_odd (suc n)) (q ∷ rest) rest
    (λ e r. absurd (r.0 (omega arith))) (λ e r. digit_none (low (suc n)) (eqb-false (suc n % 2) 1 e)) h
absent_bits (suc k) q (suc n) (suc i) b h =
    let rest = set_bits k (suc q) (suc n / 2) in
    let e : q + suc i ≡ suc q + i = omega arith in
    let tail : Absent (q + suc i) rest =
    on_if (λ qs. Absent (q + suc i) qs → Absent (q + suc i) rest) (is_odd (suc n)) (q ∷ rest) rest (λ e r. r.1) (λ e r. r) h in
    absent_bits k (suc q) (suc n / 2) i (omega arith) (subst (λ (j : ℕ). Absent j rest) e tail)

module _ (l : ℕ) (w : List ℕ) where
  -- the qubits of word j
  abbrev placed : ℕ → List ℕ
  placed j = set_bits 64 (64 * j) (bit_or (x_word w j) (z_word l w j))

  absent_places : (m j i q : ℕ) → j ≤ i → i < j + m → Absent q (flatten (map placed (numbers_from j m))) → Absent q (placed i)
  unfolding numbers_from flatten
  absent_places zero j i q a b h = absurd (omega arith)
  absent_places (suc m) j i q a b h =
      let r = absent_append q (placed j) (flatten (map placed (numbers_from (suc j) m))) h in
      go r.0 (λ c d. absent_places m (suc j) i q c d r.1) (ℕ_discrete j i)
    where
      go : Absent q (placed j) → (suc j ≤ i → i < suc j + m → Absent q (placed i)) → Dec (j ≡ i) → Absent q (placed i)
      go x y (yes e) = subst (λ (k : ℕ). Absent q (placed k)) e x
      go x y (no n) = y (omega arith) (omega arith)

  pub absent_acts : (q : ℕ) → q < 64 * l → Absent q (support l w) → acts l w q ≡ 0
  unfolding support
  absent_acts q b h =
      let e : 64 * (q / 64) + q % 64 ≡ q = omega arith in
      let none : Absent q (placed (q / 64)) = absent_places l 0 (q / 64) q (omega arith) (omega arith) h in
      ap (acts l w) (sym e) ∙ acts_bit l w (q / 64) (q % 64) (omega arith)
      ∙ absent_bits 64 (64 * (q / 64)) (bit_or (x_word w (q / 64)) (z_word l w (q / 64))) (q % 64) (omega arith)
      (subst (λ (j : ℕ). Absent j (placed (q / 64))) (sym e) none)
