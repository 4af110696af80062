-- Sums over places, counted up in a loop. Assumes nothing.
use Rattle.std.specs.Prelude.{◌≡◌, refl, Bool, true, false, cond, List, ◌∷◌, length, filter, ℕ, zero, suc, ◌+◌, ◌-◌, ◌≤◌, ◌<◌}
use Rattle.std.specs.List.{range_with_len}
use Rattle.std.proofs.Common.{ap, ap₂, ◌∙◌, add-one, arith}
use Rattle.model.specs.Lists.{when◌then◌else◌, count_of, sum_of}
use Rattle.store.specs.From.{list_from}

-- g i + g (i + 1) + .., n of them
unfoldable pub total : (ℕ → ℕ) → ℕ → ℕ → ℕ
total g i zero = 0
total g i (suc n) = g i + total g (suc i) n

total_first : (g : ℕ → ℕ) (i n : ℕ) → total g i (n + 1) ≡ g i + total g (i + 1) n
unfolding total
total_first g i n = rw (add-one n, add-one i) refl

-- k is the sum of the first i of e
unfoldable pub TotalTo : (ℕ → ℕ) → ℕ → ℕ → ℕ → Type 0
TotalTo g e i k = total g 0 e ≡ k + total g i (e - i)

pub total_none : (g : ℕ → ℕ) (e : ℕ) → TotalTo g e 0 0
unfolding TotalTo
total_none g e = let z : e ≡ e - 0 = omega arith in let f : total g 0 e ≡ total g 0 (e - 0) = ap (total g 0) z in omega arith

pub total_more : (g : ℕ → ℕ) (e i k v : ℕ) → i < e → v ≡ g i → TotalTo g e i k → TotalTo g e (i + 1) (k + v)
unfolding TotalTo
total_more g e i k v h d w =
    let f : total g i (e - i) ≡ g i + total g (i + 1) (e - (i + 1)) =
    ap (total g i) (let z : e - i ≡ e - (i + 1) + 1 = omega arith in z) ∙ total_first g i (e - (i + 1)) in
    omega arith

pub total_all : (g : ℕ → ℕ) (e i k : ℕ) → e ≤ i → TotalTo g e i k → k ≡ total g 0 e
unfolding TotalTo total
total_all g e i k h w =
    let f : total g i (e - i) ≡ 0 = ap (total g i) (let z : e - i ≡ 0 = omega arith in z) in
    omega arith

-- a sum and a count over a list that is read off place by place
pub sum_from : {A : Type 0} (f : A → ℕ) (h : ℕ → A) (i n : ℕ) → sum_of f (list_from h i n) ≡ total (λ j. f (h j)) i n
unfolding sum_of list_from total
sum_from f h i zero = refl
sum_from f h i (suc n) = ap (λ (m : ℕ). f (h i) + m) (sum_from f h (suc i) n)

-- 1 where a test holds
abbrev pub one_if : Bool → ℕ
one_if b = when b then 1 else 0

pub count_from : {A : Type 0} (f : A → Bool) (h : ℕ → A) (i n : ℕ) → count_of f (list_from h i n) ≡ total (λ j. one_if (f (h j))) i n
unfolding count_of list_from total
count_from f h i zero = refl
count_from f h i (suc n) = ap (λ (m : ℕ). one_if (f (h i)) + m) (count_from f h (suc i) n)

-- the places that pass a test
pub count_places : (test : ℕ → Bool) (i n : ℕ) → length (filter test (range_with_len i n)) ≡ total (λ j. one_if (test j)) i n
unfolding total when◌then◌else◌
count_places test i zero = refl
count_places test i (suc n) =
    go (test i) (ap (λ (j : ℕ). length (filter test (range_with_len j n))) (add-one i) ∙ count_places test (suc i) n)
  where
    rest : List ℕ
    rest = filter test (range_with_len (i + 1) n)

    go : (b : Bool) → length rest ≡ total (λ j. one_if (test j)) (suc i) n
        → length (cond b (i ∷ rest) rest) ≡ one_if b + total (λ j. one_if (test j)) (suc i) n
    go true e = omega arith
    go false e = omega arith

-- equal place by place
pub total_same : (f g : ℕ → ℕ) (i n : ℕ) → ((j : ℕ) → i ≤ j → j < i + n → f j ≡ g j) → total f i n ≡ total g i n
unfolding total
total_same f g i zero h = refl
total_same f g i (suc n) h =
    ap₂ (λ (a b : ℕ). a + b) (h i (omega arith) (omega arith)) (total_same f g (suc i) n (λ j a l. h j (omega arith) (omega arith)))
