-- Mapped lists: parts and tests. Assumes nothing.
use Rattle.std.specs.Prelude.{◌≡◌, Bool, ℕ, zero, suc, ◌+◌, length, take, drop, set}
use Rattle.std.proofs.Math.Path.{refl, ap₂, fun_ext}
use Rattle.std.proofs.Common.{ap, ◌∙◌, zero-add, suc-add}
use Rattle.std.proofs.Math.Bool.{◌&&◌, ◌||◌}
use mathlib.Core.List.{List, [], ◌∷◌, ◌++◌, map, reverse, reverse_aux}
use Rattle.model.specs.Lists.{all_of, any_of, keep, is_empty}
use Rattle.theory.specs.Lists.{keep_map}

module _ {A B : Type 0} (f : A → B) where
  reverse_onto : (xs ys : List A) → reverse_aux (map f xs) (map f ys) ≡ map f (reverse_aux xs ys)
  reverse_onto [] ys = refl
  reverse_onto (x ∷ xs) ys = reverse_onto xs (x ∷ ys)

  pub map_reverse : (xs : List A) → reverse (map f xs) ≡ map f (reverse xs)
  map_reverse xs = reverse_onto xs []

  pub map_take : (n : ℕ) (xs : List A) → take n (map f xs) ≡ map f (take n xs)
  map_take zero xs = refl
  map_take (suc n) [] = refl
  map_take (suc n) (x ∷ xs) = ap (λ (r : List B). f x ∷ r) (map_take n xs)

  pub map_drop : (n : ℕ) (xs : List A) → drop n (map f xs) ≡ map f (drop n xs)
  map_drop zero xs = refl
  map_drop (suc n) [] = refl
  map_drop (suc n) (x ∷ xs) = map_drop n xs

  pub map_set : (xs : List A) (j : ℕ) (x : A) → set (map f xs) j (f x) ≡ map f (set xs j x)
  map_set [] j x = refl
  map_set (y ∷ ys) zero x = refl
  map_set (y ∷ ys) (suc j) x = ap (λ (r : List B). f y ∷ r) (map_set ys j x)

  pub map_empty : (xs : List A) → is_empty (map f xs) ≡ is_empty xs
  unfolding is_empty
  map_empty [] = refl
  map_empty (x ∷ xs) = refl

  module _ (g : B → Bool) (h : A → Bool) (same : (x : A) → g (f x) ≡ h x) where
    -- tests that agree
    pub map_all : (xs : List A) → all_of g (map f xs) ≡ all_of h xs
    unfolding all_of
    map_all [] = refl
    map_all (x ∷ xs) = ap₂ ◌&&◌ (same x) (map_all xs)

    pub map_any : (xs : List A) → any_of g (map f xs) ≡ any_of h xs
    unfolding any_of
    map_any [] = refl
    map_any (x ∷ xs) = ap₂ ◌||◌ (same x) (map_any xs)

    pub map_keep : (xs : List A) → keep g (map f xs) ≡ map f (keep h xs)
    map_keep xs = keep_map g f xs ∙ ap (λ (test : A → Bool). map f (keep test xs)) (fun_ext same)

-- a place behind the first list
pub set_behind : {A : Type 0} (xs ys : List A) (j : ℕ) (x : A) → set (xs ++ ys) (length xs + j) x ≡ xs ++ set ys j x
set_behind [] ys j x = ap (λ (i : ℕ). set ys i x) (zero-add j)
set_behind (y ∷ xs) ys j x =
    ap (λ (i : ℕ). set (y ∷ xs ++ ys) i x) (suc-add (length xs) j) ∙ ap (λ (r : List _). y ∷ r) (set_behind xs ys j x)
