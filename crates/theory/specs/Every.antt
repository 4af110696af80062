-- What holds of every element of a list. Assumes nothing.
use Rattle.std.specs.Prelude.{◌≡◌, refl, Bool, length, get_or, set, take}
use Rattle.std.proofs.Common.{ap₂, arith}
use mathlib.Core.List.{List, [], ◌∷◌, ◌++◌, reverse, reverse_aux, map, flatten}
use Prim.Native.Nat.{ℕ, zero, suc, ◌+◌, ◌≤◌, ◌<◌}
use Rattle.std.proofs.Math.Decide.{ℕ_discrete}
use Rattle.model.specs.Lists.{keep, numbers_from}
use Rattle.theory.specs.Cases.{by_if}

-- P holds of every element
abbrev pub Every : {A : Type 0} → (A → Type 0) → List A → Type 0
Every P [] = Unit {0}
Every P (x ∷ xs) = P x × Every P xs

module _ {A : Type 0} (P : A → Type 0) where
  -- of two lists, one behind the other
  pub every_append : (xs ys : List A) → Every P xs → Every P ys → Every P (xs ++ ys)
  every_append [] ys hx hy = hy
  every_append (x ∷ xs) ys hx hy = (hx.0, every_append xs ys hx.1 hy)

  -- one more at the end
  pub every_one : (xs : List A) (x : A) → Every P xs → P x → Every P (xs ++ (x ∷ []))
  every_one xs x hx h = every_append xs (x ∷ []) hx (h, tt)

  -- of the first n
  pub every_take : (n : ℕ) (xs : List A) → Every P xs → Every P (take n xs)
  every_take zero xs h = tt
  every_take (suc n) [] h = tt
  every_take (suc n) (x ∷ xs) h = (h.0, every_take n xs h.1)

  -- of those that f takes
  pub every_keep : (f : A → Bool) (xs : List A) → Every P xs → Every P (keep f xs)
  unfolding keep
  every_keep f [] h = tt
  every_keep f (x ∷ xs) h = by_if (Every P) _ (x ∷ keep f xs) (keep f xs) (h.0, every_keep f xs h.1) (every_keep f xs h.1)

  every_onto : (xs ys : List A) → Every P xs → Every P ys → Every P (reverse_aux xs ys)
  every_onto [] ys hx hy = hy
  every_onto (x ∷ xs) ys hx hy = every_onto xs (x ∷ ys) hx.1 (hx.0, hy)

  -- in the other order
  pub every_reverse : (xs : List A) → Every P xs → Every P (reverse xs)
  every_reverse xs h = every_onto xs [] h tt

  -- of lists of lists
  pub every_flatten : (xs : List (List A)) → Every (Every P) xs → Every P (flatten xs)
  unfolding flatten
  every_flatten [] h = tt
  every_flatten (x ∷ xs) h = every_append x (flatten xs) h.0 (every_flatten xs h.1)

-- it holds of every element that f makes, if it holds of every element that f is given
pub every_map : {A B : Type 0} (P : A → Type 0) (Q : B → Type 0) (f : A → B) → ((x : A) → P x → Q (f x))
    → (xs : List A) → Every P xs → Every Q (map f xs)
every_map P Q f g [] h = tt
every_map P Q f g (x ∷ xs) h = (g x h.0, every_map P Q f g xs h.1)

-- functions that agree where it holds
pub map_every : {A B : Type 0} (P : A → Type 0) (f g : A → B) → ((x : A) → P x → f x ≡ g x) → (xs : List A) → Every P xs → map f xs ≡ map g xs
map_every P f g same [] h = refl
map_every {B = B} P f g same (x ∷ xs) h = ap₂ (λ (y : B) (ys : List B). y ∷ ys) (same x h.0) (map_every P f g same xs h.1)

-- and so of the one at place i
pub every_at : {A : Type 0} (P : A → Type 0) (xs : List A) (d : A) (i : ℕ) → Every P xs → i < length xs → P (get_or xs i d)
every_at P [] d i h b = absurd (omega arith)
every_at P (x ∷ xs) d zero h b = h.0
every_at P (x ∷ xs) d (suc i) h b = every_at P xs d i h.1 (omega arith)

-- ---- taken apart again, and carried over to other lists

module _ {A : Type 0} (P : A → Type 0) where
  -- of the two parts
  pub every_left : (xs ys : List A) → Every P (xs ++ ys) → Every P xs
  every_left [] ys h = tt
  every_left (x ∷ xs) ys h = (h.0, every_left xs ys h.1)

  pub every_right : (xs ys : List A) → Every P (xs ++ ys) → Every P ys
  every_right [] ys h = h
  every_right (x ∷ xs) ys h = every_right xs ys h.1

  -- one element is replaced
  pub every_set : (xs : List A) (i : ℕ) (x : A) → Every P xs → P x → Every P (set xs i x)
  every_set [] i x h k = tt
  every_set (y ∷ ys) zero x h k = (k, h.1)
  every_set (y ∷ ys) (suc i) x h k = (h.0, every_set ys i x h.1 k)

-- what follows from it
pub every_weaken : {A : Type 0} (P Q : A → Type 0) → ((x : A) → P x → Q x) → (xs : List A) → Every P xs → Every Q xs
every_weaken P Q f [] h = tt
every_weaken P Q f (x ∷ xs) h = (f x h.0, every_weaken P Q f xs h.1)

-- it holds of what f makes of every element
pub every_unmap : {A B : Type 0} (P : B → Type 0) (f : A → B) (xs : List A) → Every P (map f xs) → Every (λ x. P (f x)) xs
every_unmap P f [] h = tt
every_unmap P f (x ∷ xs) h = (h.0, every_unmap P f xs h.1)

-- ---- the lists f i, f (i + 1), .., joined

module _ {A : Type 0} (P : A → Type 0) (f : ℕ → List A) where
  -- of the whole, if of each part
  pub every_joined : (i n : ℕ) → ((j : ℕ) → i ≤ j → j < i + n → Every P (f j)) → Every P (flatten (map f (numbers_from i n)))
  unfolding flatten numbers_from
  every_joined i zero h = tt
  every_joined i (suc n) h =
      every_append P (f i) _ (h i (omega arith) (omega arith)) (every_joined (suc i) n (λ j a b. h j (omega arith) (omega arith)))

  -- of each part, if of the whole
  pub every_part : (i n j : ℕ) → i ≤ j → j < i + n → Every P (flatten (map f (numbers_from i n))) → Every P (f j)
  unfolding flatten numbers_from
  every_part i zero j a b h = absurd (omega arith)
  every_part i (suc n) j a b h =
      go (ℕ_discrete i j) (λ ne. every_part (suc i) n j (omega arith) (omega arith) (every_right P (f i) _ h))
    where
      go : Dec (i ≡ j) → ((i ≡ j → ⊥) → Every P (f j)) → Every P (f j)
      go (yes e) later = rw (← e) (every_left P (f i) _ h)
      go (no ne) later = later ne
