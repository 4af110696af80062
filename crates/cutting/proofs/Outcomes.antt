-- 02, M-113: where 8 refuses neither the whole nor the later part, the later part names no outcome of the earlier. Assumes nothing.
use Rattle.std.specs.Prelude.{◌≡◌, ◌⊎◌, Bool, not, ◌&&◌, ℕ, eqb}
use Rattle.std.proofs.Math.Path.{refl, ap, ap₂}
use Rattle.std.proofs.Common.{sym, ◌∙◌}
use Rattle.std.proofs.Math.Logic.{inl, inr}
use Rattle.std.proofs.Math.Bool.{true, false, ◌||◌, true≢false, and-false}
use mathlib.Core.List.{List, [], ◌∷◌, ◌++◌}
use borrow.Author.Tests.{eqb-true, eq-eqb, ne_eqb}
use Rattle.model.specs.Answers.{Accepted, BadOperation, BadReference, BadOutcome}
use Rattle.model.specs.Lists.{any_of, member}
use Rattle.model.specs.Program.{field_of}
use Rattle.model.specs.Checking.{bad_outcome, measured, check_operation, check_operations}
use Rattle.theory.specs.Cases.{by_if, on_if, neither, or_right, and_left, and_right}
use Rattle.theory.specs.Checked.{both_accepted, not_refused}
use Rattle.cutting.specs.Outcomes.{measures_outcome, names_outcome, NamesNone}

-- what 8 lets through: a measurement of a new outcome, a condition on one that was measured
outcome_right : (n : ℕ) (seen r : List ℕ) → check_operation n seen r ≡ Accepted
    → (eqb (field_of r 0) 2 && member (field_of r 4) seen ≡ false) × (eqb (field_of r 0) 3 && not (member (field_of r 4) seen) ≡ false)
unfolding check_operation bad_outcome
outcome_right n seen r h =
    let a = (not_refused _ BadOperation _ refl h).1 in
    let b = (not_refused _ BadReference _ refl a).1 in
    neither _ _ (not_refused _ BadOutcome Accepted refl b).0

-- of two tests that do not both hold, the first where the second holds
first_false : (a b : Bool) → a && b ≡ false → b ≡ true → a ≡ false
first_false true b h e = absurd (true≢false (sym e ∙ h))
first_false false b h e = refl

module _ (n k x : ℕ) where
  -- an outcome that was measured stays measured
  still_measured : (seen r : List ℕ) → member x seen ≡ true → member x (measured seen r) ≡ true
  unfolding measured member any_of
  still_measured seen r h = by_if (λ (s : List ℕ). member x s ≡ true) _ _ seen (or_right (eqb x (field_of r 4)) (member x seen) h) h

  now_measured : (seen r : List ℕ) → measures_outcome x r ≡ true → member x (measured seen r) ≡ true
  unfolding measured member any_of
  now_measured seen r h =
      let kind = and_left (eqb (field_of r 0) 2) (eqb (field_of r 4) x) h in
      let outcome = eqb-true (field_of r 4) x (and_right (eqb (field_of r 0) 2) (eqb (field_of r 4) x) h) in
      on_if (λ (s : List ℕ). member x s ≡ true) (eqb (field_of r 0) 2) (field_of r 4 ∷ seen) seen
      (λ e. ap (λ (b : Bool). b || member x seen) (eq-eqb x (field_of r 4) (sym outcome)))
      (λ e. absurd (true≢false (sym kind ∙ e)))

  -- behind the earlier part x is measured, if that part measures it
  behind_earlier : (seen : List ℕ) (earlier later : List (List ℕ)) → check_operations n seen (earlier ++ later) ≡ Accepted
      → (member x seen ≡ true) ⊎ (any_of (measures_outcome x) earlier ≡ true)
      → (seen' : List ℕ) × (member x seen' ≡ true) × (check_operations n seen' later ≡ Accepted)
  unfolding check_operations any_of
  behind_earlier seen [] later h (inl e) = (seen, e, h)
  behind_earlier seen [] later h (inr e) = absurd (true≢false (sym e))
  behind_earlier seen (r ∷ rs) later h (inl e) =
      behind_earlier (measured seen r) rs later (both_accepted _ _ h).1 (inl (still_measured seen r e))
  behind_earlier seen (r ∷ rs) later h (inr e) = behind_earlier (measured seen r) rs later (both_accepted _ _ h).1 (go (measures_outcome x r) refl)
    where
      go : (b : Bool) → measures_outcome x r ≡ b → (member x (measured seen r) ≡ true) ⊎ (any_of (measures_outcome x) rs ≡ true)
      go true f = inl (now_measured seen r f)
      go false f = inr (ap (λ (b : Bool). b || any_of (measures_outcome x) rs) (sym f) ∙ e)

  module _ (seen own r : List ℕ) (h : member x seen ≡ true) (none : member x own ≡ false)
      (new : eqb (field_of r 0) 2 && member (field_of r 4) seen ≡ false) where
    -- x is not measured again
    not_again : field_of r 4 ≡ x → eqb (field_of r 0) 2 ≡ false
    not_again e = first_false _ _ new (ap (λ (y : ℕ). member y seen) e ∙ h)

    not_own : member x (measured own r) ≡ false
    unfolding measured member any_of
    not_own =
        on_if (λ (s : List ℕ). member x s ≡ false) (eqb (field_of r 0) 2) (field_of r 4 ∷ own) own
        (λ t. ap₂ ◌||◌ (ne_eqb x (field_of r 4) (λ e. true≢false (sym t ∙ not_again (sym e)))) none) (λ t. none)

    name_not : eqb (field_of r 0) 3 && not (member (field_of r 4) own) ≡ false → names_outcome x r ≡ false
    name_not met = go (eqb (field_of r 4) x) refl
      where
        go : (b : Bool) → eqb (field_of r 4) x ≡ b → (eqb (field_of r 0) 2 || eqb (field_of r 0) 3) && b ≡ false
        go true e =
            let outcome = eqb-true (field_of r 4) x e in
            let condition = first_false _ _ met (ap (λ (y : ℕ). not (member y own)) outcome ∙ ap not none) in
            ap₂ (λ (u v : Bool). (u || v) && true) (not_again outcome) condition
        go false e = and-false (eqb (field_of r 0) 2 || eqb (field_of r 0) 3)

  -- so the later part does not name it: it may not measure it again, and by itself it has not measured it before
  names_not : (seen own : List ℕ) (later : List (List ℕ)) → member x seen ≡ true → member x own ≡ false
      → check_operations n seen later ≡ Accepted → check_operations k own later ≡ Accepted → any_of (names_outcome x) later ≡ false
  unfolding check_operations any_of
  names_not seen own [] h none whole part = refl
  names_not seen own (r ∷ rs) h none whole part =
      let w = both_accepted _ _ whole in
      let p = both_accepted _ _ part in
      let a = (outcome_right n seen r w.0).0 in
      let b = (outcome_right k own r p.0).1 in
      ap₂ ◌||◌ (name_not seen own r h none a b)
      (names_not (measured seen r) (measured own r) rs (still_measured seen r h) (not_own seen own r h none a) w.1 p.1)

pub names_none : (n k : ℕ) (earlier later : List (List ℕ)) → check_operations n [] (earlier ++ later) ≡ Accepted
    → check_operations k [] later ≡ Accepted → NamesNone earlier later
unfolding member any_of
names_none n k earlier later whole part x h =
    let b = behind_earlier n k x [] earlier later whole (inr h) in
    names_not n k x b.0 [] later b.1 refl b.2 part
