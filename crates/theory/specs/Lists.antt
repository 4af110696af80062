-- Sums over lists, facts about places in them, what tests keep and count, numbers in order. Assumes nothing.
use Rattle.std.specs.Prelude.{◌≡◌, Bool, true, false, ◌&&◌, ◌||◌, drop, set}
use Rattle.std.proofs.Math.Path.{refl}
use Rattle.std.proofs.Common.{sym, ap, ◌∙◌, length-append}
use Rattle.std.proofs.Math.Bool.{or_assoc}
use mathlib.Core.List.{List, [], ◌∷◌, ◌++◌, map, flatten, append-nil}
use Prim.Native.Nat.{ℕ, zero, suc, ◌+◌, ◌≤◌, ◌<◌}
use Rattle.std.proofs.Math.Nat.{le_refl, zero-add}
use native.Mathlib.Omega.{arith}
use Rattle.std.proofs.Math.ListN.{length, get_or, get_or-map}
use Rattle.std.proofs.lemmas.List.{length-map}
use Rattle.model.specs.Lists.{when◌then◌else◌, any_of, keep, count_of, sum_of, numbers_from}
use Rattle.theory.specs.Cases.{by_if, on_if, if_true, if_false}

module _ {A : Type 0} (f : A → ℕ) where
  -- of two lists, one behind the other
  pub sum_of_append : (xs ys : List A) → sum_of f (xs ++ ys) ≡ sum_of f xs + sum_of f ys
  unfolding sum_of
  sum_of_append [] ys = omega arith
  sum_of_append (x ∷ xs) ys = omega (arith, sum_of_append xs ys)

  -- one more at the end
  pub sum_of_one : (xs : List A) (x : A) → sum_of f (xs ++ (x ∷ [])) ≡ sum_of f xs + f x
  unfolding sum_of
  sum_of_one xs x = omega (arith, sum_of_append xs (x ∷ []))

  -- a replaced element adds at most e
  pub sum_of_set : (xs : List A) (j : ℕ) (x d : A) (e : ℕ) → f x ≤ f (get_or xs j d) + e → sum_of f (set xs j x) ≤ sum_of f xs + e
  unfolding sum_of
  sum_of_set [] j x d e h = omega arith
  sum_of_set (y ∷ ys) zero x d e h = omega arith
  sum_of_set (y ∷ ys) (suc j) x d e h = omega (arith, sum_of_set ys j x d e h)

  -- of those that g takes
  pub sum_of_keep : (g : A → Bool) (xs : List A) → sum_of f (keep g xs) ≤ sum_of f xs
  unfolding sum_of keep
  sum_of_keep g [] = le_refl _
  sum_of_keep g (x ∷ xs) =
      by_if (λ (r : List A). sum_of f r ≤ f x + sum_of f xs) _ _ _ (omega (arith, sum_of_keep g xs)) (omega (arith, sum_of_keep g xs))

  -- of lists of lists
  pub sum_of_flatten : (xs : List (List A)) → sum_of f (flatten xs) ≡ sum_of (sum_of f) xs
  unfolding sum_of flatten
  sum_of_flatten [] = refl
  sum_of_flatten (x ∷ xs) = omega (arith, sum_of_append x (flatten xs), sum_of_flatten xs)

-- of what g makes
pub sum_of_map : {A B : Type 0} (f : B → ℕ) (g : A → B) (xs : List A) → sum_of f (map g xs) ≡ sum_of (λ x. f (g x)) xs
unfolding sum_of
sum_of_map f g [] = refl
sum_of_map f g (x ∷ xs) = ap (λ (n : ℕ). f (g x) + n) (sum_of_map f g xs)

-- the lists of a list, one behind the other
pub flatten_length : {A : Type 0} (xs : List (List A)) → length (flatten xs) ≡ sum_of length xs
unfolding flatten sum_of
flatten_length [] = refl
flatten_length (x ∷ xs) = length-append x (flatten xs) ∙ ap (λ (n : ℕ). length x + n) (flatten_length xs)

-- what is left from place i on begins with what stands there
pub drop_head : {A : Type 0} (xs : List A) (i : ℕ) (x d : A) (ys : List A) → drop i xs ≡ x ∷ ys → (get_or xs i d ≡ x) × (drop (suc i) xs ≡ ys)
drop_head [] zero x d ys h = let z : ◌≡◌ {A = ℕ} 0 1 = cc in absurd (omega arith)
drop_head [] (suc i) x d ys h = let z : ◌≡◌ {A = ℕ} 0 1 = cc in absurd (omega arith)
drop_head (a ∷ xs) zero x d ys h = (cc, cc)
drop_head (a ∷ xs) (suc i) x d ys h = drop_head xs i x d ys h

-- ---- tests of lists

-- of two lists, one behind the other
pub any_append : {A : Type 0} (f : A → Bool) (xs ys : List A) → any_of f (xs ++ ys) ≡ any_of f xs || any_of f ys
unfolding any_of
any_append f [] ys = refl
any_append f (x ∷ xs) ys = ap (λ (b : Bool). f x || b) (any_append f xs ys) ∙ sym (or_assoc (f x) (any_of f xs) (any_of f ys))

-- ---- what a test keeps

module _ {A : Type 0} (f : A → Bool) (x : A) (xs : List A) where
  -- its first element is kept
  pub keep_taken : f x ≡ true → keep f (x ∷ xs) ≡ x ∷ keep f xs
  unfolding keep
  keep_taken e = if_true _ _ e

  -- or left out
  pub keep_left : f x ≡ false → keep f (x ∷ xs) ≡ keep f xs
  unfolding keep
  keep_left e = if_false _ _ e

-- all, if it takes all
keep_all : {A : Type 0} (xs : List A) → keep (λ x. true) xs ≡ xs
unfolding keep when◌then◌else◌
keep_all [] = refl
keep_all {A} (x ∷ xs) = ap (λ (ys : List A). x ∷ ys) (keep_all xs)

-- of elements that g makes
pub keep_map : {A B : Type 0} (f : B → Bool) (g : A → B) (xs : List A) → keep f (map g xs) ≡ map g (keep (λ x. f (g x)) xs)
unfolding keep
keep_map f g [] = refl
keep_map {A} {B} f g (x ∷ xs) = go (f (g x)) refl (keep_map f g xs)
  where
    go : (b : Bool) → f (g x) ≡ b → keep f (map g xs) ≡ map g (keep (λ y. f (g y)) xs)
        → keep f (g x ∷ map g xs) ≡ map g (keep (λ y. f (g y)) (x ∷ xs))
    go true e h = keep_taken f (g x) (map g xs) e ∙ ap (λ (ys : List B). g x ∷ ys) h ∙ ap (map g) (sym (keep_taken (λ y. f (g y)) x xs e))
    go false e h = keep_left f (g x) (map g xs) e ∙ h ∙ ap (map g) (sym (keep_left (λ y. f (g y)) x xs e))

-- of those that another test has kept
pub keep_both : {A : Type 0} (f h : A → Bool) (xs : List A) → keep h (keep f xs) ≡ keep (λ x. f x && h x) xs
unfolding keep
keep_both f h [] = refl
keep_both {A} f h (x ∷ xs) = go (f x) (h x) refl refl (keep_both f h xs)
  where
    both : A → Bool
    both y = f y && h y

    and_is : (a b : Bool) → f x ≡ a → h x ≡ b → both x ≡ a && b
    and_is a b e d = rw (e, d) refl

    go : (a b : Bool) → f x ≡ a → h x ≡ b → keep h (keep f xs) ≡ keep both xs → keep h (keep f (x ∷ xs)) ≡ keep both (x ∷ xs)
    go true true e d i =
        ap (keep h) (keep_taken f x xs e) ∙ keep_taken h x (keep f xs) d ∙ ap (λ (ys : List A). x ∷ ys) i
        ∙ sym (keep_taken both x xs (and_is true true e d))
    go true false e d i = ap (keep h) (keep_taken f x xs e) ∙ keep_left h x (keep f xs) d ∙ i ∙ sym (keep_left both x xs (and_is true false e d))
    go false b e d i = ap (keep h) (keep_left f x xs e) ∙ i ∙ sym (keep_left both x xs (and_is false b e d))

-- how many it keeps
pub keep_count : {A : Type 0} (f : A → Bool) (xs : List A) → length (keep f xs) ≡ count_of f xs
unfolding keep count_of
keep_count f [] = refl
keep_count f (x ∷ xs) =
    on_if (λ (ys : List _). length ys ≡ (when f x then 1 else 0) + count_of f xs) (f x) (x ∷ keep f xs) (keep f xs)
    (λ e. rw (if_true {A = ℕ} 1 0 e) (omega (arith, keep_count f xs))) (λ e. rw (if_false {A = ℕ} 1 0 e) (omega (arith, keep_count f xs)))

-- a test counts at most all
pub count_le : {A : Type 0} (f : A → Bool) (xs : List A) → count_of f xs ≤ length xs
unfolding count_of
count_le f [] = le_refl _
count_le f (x ∷ xs) = by_if (λ (k : ℕ). k + count_of f xs ≤ suc (length xs)) (f x) 1 0 (omega (arith, count_le f xs)) (omega (arith, count_le f xs))

-- ---- numbers in order

-- n numbers
pub numbers_length : (i n : ℕ) → length (numbers_from i n) ≡ n
unfolding numbers_from
numbers_length i zero = refl
numbers_length i (suc n) = ap suc (numbers_length (suc i) n)

-- f k, f (k + 1), .. by their places
pub map_range : (f : ℕ → ℕ) (i n k : ℕ) → k < n → get_or (map f (numbers_from i n)) k 0 ≡ f (k + i)
unfolding numbers_from
map_range f i zero k h = absurd (omega arith)
map_range f i (suc n) zero h = ap f (sym (zero-add i))
map_range f i (suc n) (suc k) h = map_range f (suc i) n k (omega arith) ∙ ap f (let e : k + suc i ≡ suc k + i = omega arith in e)

-- ---- a list's elements by their numbers, from i on

module _ {A : Type 0} (g : ℕ → A) (f : ℕ → Bool) (d : A) where
  -- the elements in front are all kept
  pub kept_front : (xs : List A) (i m t : ℕ) → t ≡ length xs + m → ((k : ℕ) → k < length xs → (f (k + i) ≡ true) × (g (k + i) ≡ get_or xs k d))
      → map g (keep f (numbers_from i t)) ≡ xs ++ map g (keep f (numbers_from (length xs + i) m))
  unfolding numbers_from
  kept_front [] i m t e h = let z : t ≡ m = omega arith in rw (z, zero-add i) refl
  kept_front (x ∷ xs) i m zero e h = absurd (omega arith)
  kept_front (x ∷ xs) i m (suc t) e h = go (kept_front xs (suc i) m t (omega arith) later)
    where
      later : (k : ℕ) → k < length xs → (f (k + suc i) ≡ true) × (g (k + suc i) ≡ get_or xs k d)
      later k b = let e : suc k + i ≡ k + suc i = omega arith in rw e at (h (suc k) (omega arith))

      here : (f i ≡ true) × (g i ≡ x)
      here = rw zero-add at (h 0 (omega arith))

      go : map g (keep f (numbers_from (suc i) t)) ≡ xs ++ map g (keep f (numbers_from (length xs + suc i) m))
          → map g (keep f (i ∷ numbers_from (suc i) t)) ≡ x ∷ (xs ++ map g (keep f (numbers_from (suc (length xs) + i) m)))
      go ih =
          let e : suc (length xs) + i ≡ length xs + suc i = omega arith in
          rw (keep_taken f i (numbers_from (suc i) t) here.0, here.1, ih, e) refl

  -- and those behind as their test says
  pub kept_behind : (h : A → Bool) (xs : List A) (i : ℕ)
      → ((k : ℕ) → k < length xs → (f (k + i) ≡ h (get_or xs k d)) × (g (k + i) ≡ get_or xs k d))
      → map g (keep f (numbers_from i (length xs))) ≡ keep h xs
  unfolding numbers_from keep
  kept_behind h [] i a = refl
  kept_behind h (x ∷ xs) i a = go (h x) refl (kept_behind h xs (suc i) later)
    where
      later : (k : ℕ) → k < length xs → (f (k + suc i) ≡ h (get_or xs k d)) × (g (k + suc i) ≡ get_or xs k d)
      later k b = let e : suc k + i ≡ k + suc i = omega arith in rw e at (a (suc k) (omega arith))

      here : (f i ≡ h x) × (g i ≡ x)
      here = rw zero-add at (a 0 (omega arith))

      go : (b : Bool) → h x ≡ b → map g (keep f (numbers_from (suc i) (length xs))) ≡ keep h xs
          → map g (keep f (i ∷ numbers_from (suc i) (length xs))) ≡ keep h (x ∷ xs)
      go true e ih = rw (keep_taken f i (numbers_from (suc i) (length xs)) (here.0 ∙ e), here.1, ih, keep_taken h x xs e) refl
      go false e ih = rw (keep_left f i (numbers_from (suc i) (length xs)) (here.0 ∙ e), ih, keep_left h x xs e) refl

module _ {A B : Type 0} (f : ℕ → B) (g : A → B) (d : A) where
  -- the numbers in front are the list's places
  pub map_front : (xs : List A) (i m t : ℕ) → t ≡ length xs + m → ((k : ℕ) → k < length xs → f (k + i) ≡ g (get_or xs k d))
      → map f (numbers_from i t) ≡ map g xs ++ map f (numbers_from (length xs + i) m)
  map_front xs i m t e h =
      let long : length (map g xs) ≡ length xs = length-map xs g in
      rw (keep_all (numbers_from i t), long, keep_all (numbers_from (length xs + i) m)) at
      (kept_front f (λ n. true) (g d) (map g xs) i m t (omega arith) (λ k b. (refl, h k (omega arith) ∙ sym (get_or-map g xs k d))))

  -- all of them are
  pub map_all : (xs : List A) (i : ℕ) → ((k : ℕ) → k < length xs → f (k + i) ≡ g (get_or xs k d)) → map f (numbers_from i (length xs)) ≡ map g xs
  unfolding numbers_from
  map_all xs i h = map_front xs i 0 (length xs) (omega arith) h ∙ append-nil (map g xs)

-- what a test takes of two lists, one behind the other
pub keep_append : {A : Type 0} (f : A → Bool) (xs ys : List A) → keep f (xs ++ ys) ≡ keep f xs ++ keep f ys
unfolding keep
keep_append f [] ys = refl
keep_append {A} f (x ∷ xs) ys =
    on_if (λ (r : List A). (when f x then x ∷ keep f (xs ++ ys) else keep f (xs ++ ys)) ≡ r ++ keep f ys) (f x) (x ∷ keep f xs) (keep f xs)
    (λ e. if_true _ _ e ∙ ap (λ (r : List A). x ∷ r) (keep_append f xs ys))
    (λ e. if_false _ _ e ∙ keep_append f xs ys)
