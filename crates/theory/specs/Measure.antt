-- A number for each angle that merging and a change of sign never raise: the T of an angle, or simply 1. Assumes nothing.
use Rattle.std.specs.Prelude.{◌≡◌, Bool, ℕ, ◌+◌, ◌-◌, ◌%◌, ◌≤◌, length}
use Rattle.std.proofs.Math.Path.{refl}
use mathlib.Core.List.{List, [], ◌∷◌, ◌++◌, reverse, reverse_aux, map, flatten}
use Rattle.std.proofs.Common.{arith}
use Rattle.model.specs.Lists.{keep, sum_of}
use Rattle.model.specs.Items.{Rot, Item, rotation, angle_of, t_count}
use Rattle.theory.specs.Lists.{sum_of_append, sum_of_one, sum_of_keep, sum_of_flatten, sum_of_map}

-- laws that a measure has
pub record Measure (m : ℕ → ℕ) : Type 0 where
  pub least : (k : ℕ) → m 0 ≤ m k
  pub sign : (k : ℕ) → m ((8 - k) % 8) ≤ m k
  pub merge : (a b : ℕ) → m ((a + b) % 8) ≤ m a + m b

-- 1 for an odd angle
abbrev pub t_of : ℕ → ℕ
t_of k = k % 2

-- 1 for each
abbrev pub one_each : ℕ → ℕ
one_each k = 1

-- the T of an angle
pub t_measure : Measure t_of
t_measure = record { least = λ k. omega arith; sign = λ k. omega arith; merge = λ a b. omega arith }

-- 1 for each item
pub one_measure : Measure one_each
one_measure = record { least = λ k. omega arith; sign = λ k. omega arith; merge = λ a b. omega arith }

-- ---- the measure of items and of rotations

-- over items
unfoldable pub size_of : (ℕ → ℕ) → List Item → ℕ
size_of m = sum_of (λ (i : Item). m (angle_of i))

-- over rotations
unfoldable pub size_of_rots : (ℕ → ℕ) → List Rot → ℕ
size_of_rots m = sum_of (λ (r : Rot). m r.angle)

-- by the T of each angle it is the T-count
pub size_of_t_count : (is : List Item) → size_of t_of is ≡ t_count is
unfolding size_of t_count
size_of_t_count is = refl

-- by 1 for each it is the number of items
pub size_of_length : (is : List Item) → size_of one_each is ≡ length is
unfolding size_of sum_of
size_of_length [] = refl
size_of_length (i ∷ is) = omega (arith, size_of_length is)

module _ (m : ℕ → ℕ) where
  -- none
  pub size_of_nil : size_of m [] ≡ 0
  unfolding size_of sum_of
  size_of_nil = refl

  -- one behind the other
  pub size_of_append : (xs ys : List Item) → size_of m (xs ++ ys) ≡ size_of m xs + size_of m ys
  unfolding size_of
  size_of_append xs ys = sum_of_append _ xs ys

  -- those that f takes
  pub size_of_keep : (f : Item → Bool) (is : List Item) → size_of m (keep f is) ≤ size_of m is
  unfolding size_of
  size_of_keep f is = sum_of_keep _ f is

  -- rotations as items
  pub size_of_rotations : (rots : List Rot) → size_of m (map rotation rots) ≡ size_of_rots m rots
  unfolding size_of size_of_rots
  size_of_rotations rots = sum_of_map _ rotation rots

  -- none
  pub rots_nil : size_of_rots m [] ≡ 0
  unfolding size_of_rots sum_of
  rots_nil = refl

  -- one behind the other
  pub rots_append : (xs ys : List Rot) → size_of_rots m (xs ++ ys) ≡ size_of_rots m xs + size_of_rots m ys
  unfolding size_of_rots
  rots_append xs ys = sum_of_append _ xs ys

  -- one more at the end
  pub rots_one : (xs : List Rot) (r : Rot) → size_of_rots m (xs ++ (r ∷ [])) ≡ size_of_rots m xs + m r.angle
  unfolding size_of_rots
  rots_one xs r = sum_of_one _ xs r

  -- one more in front
  pub rots_cons : (r : Rot) (xs : List Rot) → size_of_rots m (r ∷ xs) ≡ m r.angle + size_of_rots m xs
  unfolding size_of_rots sum_of
  rots_cons r xs = refl

  -- those that f takes
  pub rots_keep : (f : Rot → Bool) (xs : List Rot) → size_of_rots m (keep f xs) ≤ size_of_rots m xs
  unfolding size_of_rots
  rots_keep f xs = sum_of_keep _ f xs

  rots_onto : (xs ys : List Rot) → size_of_rots m (reverse_aux xs ys) ≡ size_of_rots m xs + size_of_rots m ys
  rots_onto [] ys = omega (arith, rots_nil)
  rots_onto (x ∷ xs) ys = omega (arith, rots_onto xs (x ∷ ys), rots_cons x xs, rots_cons x ys)

  -- in the other order
  pub rots_reverse : (xs : List Rot) → size_of_rots m (reverse xs) ≡ size_of_rots m xs
  rots_reverse xs = omega (arith, rots_onto xs [], rots_nil)

  -- of lists of rotations
  pub rots_flatten : (xs : List (List Rot)) → size_of_rots m (flatten xs) ≡ sum_of (size_of_rots m) xs
  unfolding size_of_rots
  rots_flatten xs = sum_of_flatten _ xs
