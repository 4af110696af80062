-- An axis's letters: qubit by qubit, those with a letter other than I. Assumes nothing.
use Rattle.std.specs.Prelude.{◌≡◌, eqb}
use Rattle.std.proofs.Math.Path.{refl, sym, ap}
use Rattle.std.proofs.Common.{◌∙◌, eq-eqb, ne_eqb}
use mathlib.Core.List.{List, [], ◌∷◌, ◌++◌, map, flatten, append-nil, append_assoc}
use Prim.Native.Nat.{ℕ, zero, suc, ◌+◌, ◌*◌}
use native.Mathlib.Omega.{arith}
use Rattle.pauli.specs.Letter.{letter_at, other}
use Rattle.model.specs.Lists.{when◌then◌else◌, numbers_from}
use Rattle.model.specs.Words.{support}
use Rattle.model.specs.Listing.{line_of, text_of}
use Rattle.theory.specs.Cases.{if_true, if_false}
use Rattle.theory.specs.Support.{walk, walk_append, numbers_append, walk_support}
use Rattle.listing_print.specs.Printed.{joined}

-- "(id, qubit, letter)"
abbrev pub letter_line : ℕ → ℕ → List ℕ → ℕ → List ℕ
letter_line l id w q = id ∷ q ∷ letter_at l w q ∷ []

-- a qubit's line, where its letter is not I
unfoldable pub letter_text : ℕ → ℕ → List ℕ → ℕ → List ℕ
letter_text l id w q = when eqb (letter_at l w q) 0 then [] else line_of (letter_line l id w q)

pub no_letter : (l id : ℕ) (w : List ℕ) (q : ℕ) {c : ℕ} → c ≡ letter_at l w q → c ≡ 0 → [] ≡ letter_text l id w q
unfolding letter_text
no_letter l id w q e z = sym (if_true _ _ (eq-eqb (letter_at l w q) 0 (sym e ∙ z)))

pub one_letter : (l id : ℕ) (w : List ℕ) (q : ℕ) {c : ℕ} → c ≡ letter_at l w q → (c ≡ 0 → ⊥)
    → line_of (id ∷ q ∷ c ∷ []) ≡ letter_text l id w q
unfolding letter_text
one_letter l id w q e n =
    ap (λ (k : ℕ). line_of (id ∷ q ∷ k ∷ [])) e ∙ sym (if_false _ _ (ne_eqb (letter_at l w q) 0 (λ z. n (e ∙ z))))

letter_none : (c : ℕ) → other c ≡ 0 → c ≡ 0
letter_none zero e = refl
letter_none (suc c) e = absurd (omega arith)

letter_some : (c : ℕ) → other c ≡ 1 → c ≡ 0 → ⊥
letter_some zero e f = omega arith
letter_some (suc c) e f = omega arith

module _ (l id : ℕ) (w : List ℕ) where
  abbrev with_line : List ℕ → ℕ → List ℕ
  with_line v q = v ++ line_of (letter_line l id w q)

  abbrev with_text : List ℕ → ℕ → List ℕ
  with_text v q = v ++ letter_text l id w q

  lines_walked : (v qs : List ℕ) → walk with_line v qs ≡ v ++ text_of (map (letter_line l id w) qs)
  unfolding walk text_of flatten
  lines_walked v [] = sym (append-nil v)
  lines_walked v (q ∷ qs) = lines_walked (with_line v q) qs ∙ append_assoc v (line_of (letter_line l id w q)) _

  texts_walked : (n : ℕ) → walk with_text [] (numbers_from 0 n) ≡ joined (letter_text l id w) n
  unfolding walk numbers_from joined
  texts_walked zero = refl
  texts_walked (suc n) =
      ap (walk with_text []) (ap (numbers_from 0) (let e : suc n ≡ n + 1 = omega arith in e) ∙ numbers_append 0 n 1)
      ∙ walk_append with_text [] (numbers_from 0 n) (numbers_from (0 + n) 1)
      ∙ ap (λ (v : List ℕ). v ++ letter_text l id w (0 + n)) (texts_walked n)
      ∙ ap (λ (k : ℕ). joined (letter_text l id w) n ++ letter_text l id w k) (let e : 0 + n ≡ n = omega arith in e)

  pub letters_joined : joined (letter_text l id w) (64 * l) ≡ text_of (map (letter_line l id w) (support l w))
  unfolding letter_text
  letters_joined =
      sym (texts_walked (64 * l))
      ∙ sym (walk_support (λ (v : List ℕ). v) with_line with_text l w (λ q b. (
        (λ e v. ap (λ (t : List ℕ). v ++ t) (sym (if_false _ _ (ne_eqb (letter_at l w q) 0 (letter_some (letter_at l w q) e))))),
        (λ e v. ap (λ (t : List ℕ). v ++ t) (if_true _ _ (eq-eqb (letter_at l w q) 0 (letter_none (letter_at l w q) e))) ∙ append-nil v),
      )) [])
      ∙ lines_walked [] (support l w)
