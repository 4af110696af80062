-- Choice, and tests, counts and sums over lists. Assumes nothing.
use Rattle.std.specs.Prelude.{Bool, true, false, not, ◌&&◌, ◌||◌, List, [], ◌∷◌, ℕ, zero, suc, ◌+◌, ◌%◌, max, eqb}

-- kept shut, so that one lemma splits every choice into its two cases (theory, Cases)
infix 2 when◌then◌else◌
unfoldable pub when◌then◌else◌ : {A : Type 0} → Bool → A → A → A
when true then x else y = x
when false then x else y = y

module _ {A : Type 0} where
  unfoldable pub all_of : (A → Bool) → List A → Bool
  all_of f [] = true
  all_of f (x ∷ xs) = f x && all_of f xs

  unfoldable pub any_of : (A → Bool) → List A → Bool
  any_of f [] = false
  any_of f (x ∷ xs) = f x || any_of f xs

  -- those that f takes
  unfoldable pub keep : (A → Bool) → List A → List A
  keep f [] = []
  keep f (x ∷ xs) = let kept = keep f xs in when f x then x ∷ kept else kept

  unfoldable pub count_of : (A → Bool) → List A → ℕ
  count_of f [] = 0
  count_of f (x ∷ xs) = (when f x then 1 else 0) + count_of f xs

  unfoldable pub sum_of : (A → ℕ) → List A → ℕ
  sum_of f [] = 0
  sum_of f (x ∷ xs) = f x + sum_of f xs

  -- 0 where there is none
  unfoldable pub highest_of : (A → ℕ) → List A → ℕ
  highest_of f [] = 0
  highest_of f (x ∷ xs) = max (f x) (highest_of f xs)

  unfoldable pub is_empty : List A → Bool
  is_empty [] = true
  is_empty (x ∷ xs) = false

unfoldable pub member : ℕ → List ℕ → Bool
member a = any_of (eqb a)

-- k, k + 1, .. : n numbers
unfoldable pub numbers_from : ℕ → ℕ → List ℕ
numbers_from k zero = []
numbers_from k (suc n) = k ∷ numbers_from (suc k) n

abbrev pub is_odd : ℕ → Bool
is_odd k = eqb (k % 2) 1

abbrev pub is_even : ℕ → Bool
is_even k = not (is_odd k)
