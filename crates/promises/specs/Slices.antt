-- What lies in a lent slice, whatever its length: numbers at every place, and records that are followed by zeros. Assumes nothing.
use Rattle.std.specs.Prelude.{◌≡◌, refl, false, ℕ, zero, suc, ◌-◌, ◌≤◌, eqb, length, get_or, take, drop, replicate}
use Rattle.std.proofs.Common.{sym, ap, ap₂, ◌∙◌, arith, eq-eqb}
use mathlib.Core.List.{List, [], ◌∷◌, ◌++◌, flatten, append_assoc}
use Rattle.model.specs.Lists.{when◌then◌else◌}
use Rattle.model.specs.Program.{field_of}
use Rattle.model.specs.Rewriting.{then_zeros, zeros}
use Rattle.theory.specs.Cases.{if_true, if_false}
use Rattle.theory.specs.Every.{Every}
use Rattle.result_effect.specs.Calls.{take_front, drop_front}

-- ---- slices of different lengths

-- the same numbers at every place, with 0 behind a slice's end
abbrev pub Agree : List ℕ → List ℕ → Type 0
Agree s t = (i : ℕ) → get_or s i 0 ≡ get_or t i 0

-- zeros have 0 at every place
pub zeros_at : (n i : ℕ) → get_or (replicate {A = ℕ} n 0) i 0 ≡ 0
zeros_at zero i = refl
zeros_at (suc n) zero = refl
zeros_at (suc n) (suc i) = zeros_at n i

append_zeros_at : (xs : List ℕ) (n i : ℕ) → get_or (xs ++ replicate n 0) i 0 ≡ get_or xs i 0
append_zeros_at [] n i = zeros_at n i
append_zeros_at (x ∷ xs) n zero = refl
append_zeros_at (x ∷ xs) n (suc i) = append_zeros_at xs n i

-- "results, then zeros": the slice's own length does not show
pub then_zeros_at : (s xs : List ℕ) → Agree (then_zeros s xs) xs
unfolding then_zeros
then_zeros_at s xs i = append_zeros_at xs (length s - length xs) i

-- the same numbers in two slices, then zeros
pub agree_then : (s s' xs : List ℕ) {t t' : List ℕ} → t ≡ then_zeros s xs → t' ≡ then_zeros s' xs → Agree t' t
agree_then s s' xs e e' i = rw (e, e') (then_zeros_at s' xs i ∙ sym (then_zeros_at s xs i))

-- two slices of zeros
pub agree_zeros : (s s' : List ℕ) {t t' : List ℕ} → t ≡ zeros s → t' ≡ zeros s' → Agree t' t
unfolding zeros
agree_zeros s s' e e' i = rw (e, e') (zeros_at (length s') i ∙ sym (zeros_at (length s) i))

-- ---- the records of operations in a slice

-- at most n records, up to the first that has no kind: "kind 1 rotate, 2 measure, 3 conditional", and zeros behind the last
unfoldable pub kinds_read : ℕ → List ℕ → List (List ℕ)
kinds_read zero s = []
kinds_read (suc n) s = when eqb (get_or s 0 0) 0 then [] else take 6 s ∷ kinds_read n (drop 6 s)

-- a record of six fields that has a kind
pub record HasKind (r : List ℕ) : Type 0 where
  pub long : length r ≡ 6
  pub kind : eqb (field_of r 0) 0 ≡ false

first_of : (r rest : List ℕ) → length r ≡ 6 → get_or (r ++ rest) 0 0 ≡ get_or r 0 0
first_of [] rest h = absurd (omega arith)
first_of (x ∷ r) rest h = refl

-- such records are read again, whatever zeros follow
pub kinds_read_lem : (n : ℕ) (rs : List (List ℕ)) (rest : List ℕ) → Every HasKind rs → length rs ≤ n → get_or rest 0 0 ≡ 0
    → kinds_read n (flatten rs ++ rest) ≡ rs
unfolding kinds_read flatten
kinds_read_lem zero [] rest h le z = refl
kinds_read_lem (suc n) [] rest h le z = if_true _ _ (eq-eqb (get_or rest 0 0) 0 z)
kinds_read_lem zero (r ∷ rs) rest h le z = absurd (omega arith)
kinds_read_lem (suc n) (r ∷ rs) rest h le z =
    let joined : (r ++ flatten rs) ++ rest ≡ r ++ (flatten rs ++ rest) = append_assoc r (flatten rs) rest in
    let first : get_or ((r ++ flatten rs) ++ rest) 0 0 ≡ get_or r 0 0
    = ap (λ (t : List ℕ). get_or t 0 0) joined ∙ first_of r (flatten rs ++ rest) h.0.long in
    let one : take 6 ((r ++ flatten rs) ++ rest) ≡ r = rw (joined, ← h.0.long) (take_front r (flatten rs ++ rest)) in
    let others : drop 6 ((r ++ flatten rs) ++ rest) ≡ flatten rs ++ rest = rw (joined, ← h.0.long) (drop_front r (flatten rs ++ rest)) in
    if_false _ _ (ap (λ (k : ℕ). eqb k 0) first ∙ h.0.kind)
    ∙ ap₂ (λ (x : List ℕ) (xs : List (List ℕ)). x ∷ xs) one (ap (kinds_read n) others ∙ kinds_read_lem n rs rest h.1 (omega arith) z)
