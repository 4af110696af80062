-- The theory's words are the model's packed words of one width l: the lists of exactly 2 l numbers. Assumes nothing.
use Rattle.std.specs.Prelude.{◌≡◌, refl, Bool, true, false, pos, length}
use Rattle.std.proofs.Common.{sym, ◌∙◌, true≢false, arith}
use Rattle.std.proofs.Math.Path.{ap}
use mathlib.Core.HLevel.{Σ_prop_path, hedberg}
use mathlib.Core.List.{List, [], ◌∷◌}
use Prim.Native.Nat.{ℕ, ◌+◌, ◌*◌, ◌%◌}
use Rattle.std.proofs.Math.Decide.{ℕ_discrete}
use Rattle.std.proofs.Math.ListN.{replicate}
use Rattle.store.specs.Equal.{same_list, same_refl, same_true}
use Rattle.groups.specs.Abelian.{neg_unique}
use Rattle.groups.specs.Normaliser.{at, ◌⊞◌, ⊟◌, ab}
use Rattle.groups.specs.Coeff.{Coeff, coeff_root}
use Rattle.pauli.specs.Word.{identity, xor_words, phase}
use Rattle.pauli.specs.ProductLaws.{xor_words_comm, xor_words_assoc, xor_words_self, xor_words_length, xor_words_zero, xor_words_twice}
use Rattle.pauli.specs.ProductLaws.{symplectic_comm, symplectic_xor, phase_odd, phase_swap, phase_cocycle, phase_self, phase_identity}
use Rattle.pauli.specs.LetterLaws.{identity_length}
use Rattle.effect.specs.Phase.{Quarter, q0, Quarterᵃ, odd, xor, neg4, ◌⊞₄◌, odd_add, quarter, quarter_add, quarter_mod, odd_half}
use Rattle.effect.specs.Words.{Words, Setting}

abbrev pub Packed : ℕ → Type 0
Packed l = (p : List ℕ) × (length p ≡ 2 * l)

-- words are equal if their numbers are
pub packed_ext : (l : ℕ) (P Q : Packed l) → P.0 ≡ Q.0 → P ≡ Q
packed_ext l P Q e = Σ_prop_path (λ p. hedberg ℕ_discrete (length p) (2 * l)) {u = P} {v = Q} e

-- ---- phases modulo 4

opposite4 : (m n : ℕ) → (m + n) % 4 ≡ 0 → quarter m ≡ neg4 (quarter n)
unfolding quarter
opposite4 m n h = neg_unique Quarterᵃ (quarter m) (quarter n) (sym (quarter_add m n) ∙ sym (quarter_mod (m + n)) ∙ ap quarter h)

same_sum4 : (a b c d : ℕ) → (a + b) % 4 ≡ (c + d) % 4 → quarter a ⊞₄ quarter b ≡ quarter c ⊞₄ quarter d
same_sum4 a b c d h =
    sym (quarter_add a b) ∙ sym (quarter_mod (a + b)) ∙ ap quarter h ∙ quarter_mod (c + d) ∙ quarter_add c d

-- (P Q) R = P (Q R), solved for the phase of P and Q R
cocycle4 : (a b c d : ℕ) → (a + b) % 4 ≡ (c + d) % 4 → quarter d ≡ (quarter a ⊞₄ quarter b) ⊞₄ neg4 (quarter c)
cocycle4 a b c d h =
    ab Quarterᵃ (quarter c ∷ quarter d ∷ []) (at 1) ((at 0 ⊞ at 1) ⊞ ⊟ at 0) refl
    ∙ ap (λ t. t ⊞₄ neg4 (quarter c)) (sym (same_sum4 a b c d h))

parity4 : (a b c : ℕ) → a % 2 ≡ (b + c) % 2 → odd (quarter a) ≡ xor (odd (quarter b)) (odd (quarter c))
parity4 a b c h =
    sym (odd_half a) ∙ ap (λ n. odd (quarter n)) h ∙ odd_half (b + c) ∙ ap odd (quarter_add b c) ∙ odd_add (quarter b) (quarter c)

-- ---- the word system

module _ (l : ℕ) where
  abbrev pub mul : Packed l → Packed l → Packed l
  mul P Q = (xor_words P.0 Q.0, xor_words_length P.0 Q.0 (P.1 ∙ sym Q.1) ∙ P.1)

  abbrev pub one : Packed l
  one = (identity l, identity_length l)

  -- "PQ = i^e R": e as a quarter
  unfoldable pub phase4 : Packed l → Packed l → Quarter
  phase4 P Q = quarter (phase l P.0 Q.0)

  pub one_mul : (P : Packed l) → mul one P ≡ P
  one_mul P = packed_ext l (mul one P) P (xor_words_zero (2 * l) P.0 (omega (arith, P.1)))

  pub one_phase : (P : Packed l) → phase4 one P ≡ q0
  unfolding phase4 quarter
  one_phase P = ap quarter (phase_identity l P.0 P.1)

  pub mul_assoc : (P Q R : Packed l) → mul (mul P Q) R ≡ mul P (mul Q R)
  mul_assoc P Q R = packed_ext l (mul (mul P Q) R) (mul P (mul Q R)) (xor_words_assoc P.0 Q.0 R.0)

  pub mul_comm : (P Q : Packed l) → mul P Q ≡ mul Q P
  mul_comm P Q = packed_ext l (mul P Q) (mul Q P) (xor_words_comm P.0 Q.0)

  pub mul_cancel : (P Q : Packed l) → mul P (mul P Q) ≡ Q
  mul_cancel P Q = packed_ext l (mul P (mul P Q)) Q (xor_words_twice P.0 Q.0 (omega (arith, P.1, Q.1)))

  pub phase4_swap : (P Q : Packed l) → phase4 Q P ≡ neg4 (phase4 P Q)
  unfolding phase4
  phase4_swap P Q =
      opposite4 (phase l Q.0 P.0) (phase l P.0 Q.0)
      (omega (arith, phase_swap l P.0 Q.0, phase_odd l P.0 Q.0))

  pub phase4_cancel : (P Q : Packed l) → phase4 P (mul P Q) ≡ neg4 (phase4 P Q)
  unfolding phase4
  phase4_cancel P Q =
      opposite4 (phase l P.0 (xor_words P.0 Q.0)) (phase l P.0 Q.0)
      (omega (arith, phase_cocycle l P.0 P.0 Q.0, phase_self l P.0, none))
    where
      none : phase l (xor_words P.0 P.0) Q.0 ≡ 0
      none = ap (λ w. phase l w Q.0) (xor_words_self P.0 ∙ ap (λ n. replicate n 0) P.1) ∙ phase_identity l Q.0 Q.1

  pub phase4_mul : (P Q R : Packed l) → phase4 P (mul Q R) ≡ (phase4 P Q ⊞₄ phase4 (mul P Q) R) ⊞₄ neg4 (phase4 Q R)
  unfolding phase4
  phase4_mul P Q R =
      cocycle4 (phase l P.0 Q.0) (phase l (xor_words P.0 Q.0) R.0) (phase l Q.0 R.0) (phase l P.0 (xor_words Q.0 R.0))
      (phase_cocycle l P.0 Q.0 R.0)

  pub phase4_odd : (P Q R : Packed l) → odd (phase4 (mul P Q) R) ≡ xor (odd (phase4 P R)) (odd (phase4 Q R))
  unfolding phase4
  phase4_odd P Q R = parity4 (phase l (xor_words p q) r) (phase l p r) (phase l q r) sums
    where
      p : List ℕ
      p = P.0

      q : List ℕ
      q = Q.0

      r : List ℕ
      r = R.0

      sums : phase l (xor_words p q) r % 2 ≡ (phase l p r + phase l q r) % 2
      sums =
          omega (
            arith,
            phase_odd l (xor_words p q) r,
            phase_odd l p r,
            phase_odd l q r,
            symplectic_comm l (xor_words p q) r,
            symplectic_comm l p r,
            symplectic_comm l q r,
            symplectic_xor l r p q,
          )

  abbrev pub packed_words : Words
  packed_words = record {
    W = Packed l;
    ◌⊕◌ = mul;
    ph = phase4;
    unit = one;
    ⊕-unit = one_mul;
    ph_unit = one_phase;
    ⊕-assoc = mul_assoc;
    ⊕-comm = mul_comm;
    ⊕-cancel = mul_cancel;
    ph_swap = phase4_swap;
    ph_cancel = phase4_cancel;
    ph_mul = phase4_mul;
    ph_odd = phase4_odd;
  }

  -- words are told apart as the model does it
  abbrev pub decided : (P Q : Packed l) (b : Bool) → same_list P.0 Q.0 ≡ b → Dec (P ≡ Q)
  decided P Q true e = yes (packed_ext l P Q (same_true P.0 Q.0 e))
  decided P Q false e = no (λ r. true≢false (sym (same_refl P.0) ∙ ap (λ (R : Packed l). same_list P.0 R.0) r ∙ e))

  unfoldable pub same_packed : (P Q : Packed l) → Dec (P ≡ Q)
  same_packed P Q = decided P Q (same_list P.0 Q.0) refl

  -- "Coefficients are a + b√2 with whole a, b"
  abbrev pub packed : Setting
  packed = record { words = packed_words; same = same_packed; coeff = Coeff; root = coeff_root; one = (pos 1, pos 0) }
