-- A line as a record: where -1 stands, outcome and target. Assumes nothing.
use Rattle.std.specs.Prelude.{◌≡◌, Bool, ◌&&◌, ◌||◌, List, [], ◌∷◌, ◌++◌, ℕ, eqb, length, set}
use Rattle.std.proofs.Math.Path.{refl, sym, ap, ap₂}
use Rattle.std.proofs.Common.{◌∙◌, arith}
use Rattle.std.proofs.Math.Bool.{true, false, not}
use Rattle.std.proofs.Math.Option.{Option, none, some, bind}
use Rattle.std.proofs.Math.ListN.{take}
use Rattle.model.specs.Lists.{when◌then◌else◌, any_of}
use Rattle.model.specs.Program.{field_of, minus_one}
use Rattle.model.specs.Listing.{plain_line, operation_line, to16, fits16}
use Rattle.theory.specs.Cases.{if_true, if_false}
use Rattle.std.specs.List.{list_any}
use Rattle.std.proofs.lemmas.Bool.Decides.{nat_tests}
use Rattle.listing_fields.specs.Views.{outcome_and_target, fits_of}

-- ---- -1 among them

pub any_is : (v : ℕ) (r : List ℕ) → list_any (λ x. eqb x v) r ≡ any_of (eqb v) r
unfolding any_of
any_is v [] = refl
any_is v (x ∷ r) = ap₂ (λ (a b : Bool). a || b) (let e : eqb x v ≡ eqb v x = grind (arith, nat_tests) in e) (any_is v r)

-- ---- a line as a record

module _ (r : List ℕ) (x : Option (List ℕ)) (read : some r ≡ x) where
  pub plain_minus : (b : Bool) → b ≡ any_of (eqb minus_one) r → b ≡ true → none ≡ bind x plain_line
  unfolding bind plain_line
  plain_minus b e t = sym (if_true none (some r) (sym e ∙ t)) ∙ ap (λ y. bind y plain_line) read

  pub plain_is : (b : Bool) → b ≡ any_of (eqb minus_one) r → b ≡ false → some r ≡ bind x plain_line
  unfolding bind plain_line
  plain_is b e t = sym (if_false none (some r) (sym e ∙ t)) ∙ ap (λ y. bind y plain_line) read

  operation_is : operation_line r ≡ (when any_of (eqb minus_one) (take 4 r) then none else outcome_and_target r)
  unfolding operation_line outcome_and_target when◌then◌else◌
  operation_is = go (any_of (eqb minus_one) (take 4 r))
    where
      go : (b : Bool) → (when b || not (fits16 (field_of r 4)) || not (fits16 (field_of r 5)) ||
          (eqb (field_of r 4) minus_one && not (eqb (field_of r 0) 1)) then none
          else some (take 4 r ++ (to16 (field_of r 4) ∷ to16 (field_of r 5) ∷ []))) ≡ (when b then none else outcome_and_target r)
      go true = refl
      go false = refl

  pub operation_minus : (b : Bool) → b ≡ any_of (eqb minus_one) (take 4 r) → b ≡ true → none ≡ bind x operation_line
  unfolding bind
  operation_minus b e t = sym (operation_is ∙ if_true _ _ (sym e ∙ t)) ∙ ap (λ y. bind y operation_line) read

  pub operation_rest : (b : Bool) (y : Option (List ℕ)) → b ≡ any_of (eqb minus_one) (take 4 r) → b ≡ false → y ≡ outcome_and_target r
      → y ≡ bind x operation_line
  unfolding bind
  operation_rest b y e t p = p ∙ sym (operation_is ∙ if_false _ _ (sym e ∙ t)) ∙ ap (λ y. bind y operation_line) read

-- ---- outcome and target

two_set : (r : List ℕ) (v w : ℕ) → length r ≡ 6 → set (set r 4 v) 5 w ≡ take 4 r ++ (v ∷ w ∷ [])
two_set [] v w e = absurd (omega arith)
two_set (a ∷ []) v w e = absurd (omega arith)
two_set (a ∷ b ∷ []) v w e = absurd (omega arith)
two_set (a ∷ b ∷ c ∷ []) v w e = absurd (omega arith)
two_set (a ∷ b ∷ c ∷ d ∷ []) v w e = absurd (omega arith)
two_set (a ∷ b ∷ c ∷ d ∷ o ∷ []) v w e = absurd (omega arith)
two_set (a ∷ b ∷ c ∷ d ∷ o ∷ t ∷ []) v w e = refl
two_set (a ∷ b ∷ c ∷ d ∷ o ∷ t ∷ x ∷ r) v w e = absurd (omega arith)

-- what the tests of outcome and target say
module _ (r : List ℕ) {a b : Bool} (outcome : a ≡ fits16 (field_of r 4)) (target : b ≡ fits16 (field_of r 5)) where
  tests : not a || not b || (eqb (field_of r 4) minus_one && not (eqb (field_of r 0) 1))
      ≡ not (fits16 (field_of r 4)) || not (fits16 (field_of r 5)) || (eqb (field_of r 4) minus_one && not (eqb (field_of r 0) 1))
  tests = ap₂ (λ (x y : Bool). not x || not y || (eqb (field_of r 4) minus_one && not (eqb (field_of r 0) 1))) outcome target

  pub outcome_refused : not a || not b || (eqb (field_of r 4) minus_one && not (eqb (field_of r 0) 1)) ≡ true → none ≡ outcome_and_target r
  unfolding outcome_and_target
  outcome_refused t = sym (if_true _ _ (sym tests ∙ t))

  pub outcome_written : {v w : ℕ} → not a || not b || (eqb (field_of r 4) minus_one && not (eqb (field_of r 0) 1)) ≡ false → length r ≡ 6
      → v ≡ to16 (field_of r 4) → w ≡ to16 (field_of r 5) → some (set (set r 4 v) 5 w) ≡ outcome_and_target r
  unfolding outcome_and_target
  outcome_written {v} {w} t e p q =
      ap some (two_set r v w e ∙ ap₂ (λ (x y : ℕ). take 4 r ++ (x ∷ y ∷ [])) p q) ∙ sym (if_false _ _ (sym tests ∙ t))

-- ---- by what the record is

pub as_operation : (x : Option (List ℕ)) {y : Option (List ℕ)} (b : Bool) → y ≡ bind x operation_line → b ≡ true → y ≡ bind x (fits_of b)
as_operation x b e t = e ∙ ap (λ (c : Bool). bind x (fits_of c)) (sym t)

pub as_plain : (x : Option (List ℕ)) {y : Option (List ℕ)} (b : Bool) → y ≡ bind x plain_line → b ≡ false → y ≡ bind x (fits_of b)
as_plain x b e t = e ∙ ap (λ (c : Bool). bind x (fits_of c)) (sym t)
