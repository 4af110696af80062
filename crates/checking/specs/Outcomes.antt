-- Refusal 8 by a table of bits: it has the outcomes measured before operation i. Assumes nothing.
use Rattle.std.specs.Prelude.{◌≡◌, refl, Bool, true, false, not, ◌&&◌, ◌||◌, ℕ, zero, suc, ◌+◌, ◌-◌, ◌*◌, ◌≤◌, ltb, length, take, drop, replicate}
use Rattle.std.proofs.Math.Path.{sym, ap}
use Rattle.std.proofs.Common.{◌∙◌, add-one, arith, eq-eqb, ne_eqb, ltb-false}
use mathlib.Core.List.{List, []}
use Rattle.std.proofs.Math.Dec.{eqb}
use Rattle.std.proofs.lemmas.List.{length-replicate}
use Rattle.store.specs.Part.{part, part_cut}
use Rattle.model.specs.Answers.{Answer, Accepted, BadReference, BadOperation, BadOutcome}
use Rattle.model.specs.Lists.{any_of, member}
use Rattle.model.specs.Program.{field_of, largest_outcome, no_outcome}
use Rattle.model.specs.Checking.{bad_operation, bad_reference, bad_outcome, measured, check_operation, check_operations}
use Rattle.theory.specs.Cases.{if_true, if_false, neither}
use Rattle.checking.specs.Walk.{Walks}
use Rattle.checking.specs.Table.{has_bit, with_bit, with_length, none_set, one_more_set}

-- the table has the bits of these outcomes, and of no other
pub record Entered (seen t : List ℕ) : Type 0 where
  pub long : length t ≡ 1024
  pub bits : (o : ℕ) → o ≤ largest_outcome → has_bit t o ≡ member o seen

-- what checking one operation leaves: its answer, and its outcome in the table if it passes
pub record Checked (nodes : ℕ) (seen r : List ℕ) (a : Answer) (t : List ℕ) : Type 0 where
  pub answer : a ≡ check_operation nodes seen r
  pub entered : a ≡ Accepted → Entered (measured seen r) t

-- an operation that passes refusal 7 and is no plain rotation has an outcome in range
pub outcome_small : (r : List ℕ) → bad_operation r ≡ false → (field_of r 0 ≡ 1 → ⊥) → field_of r 4 ≤ largest_outcome
unfolding bad_operation
outcome_small r e n =
    let large = ltb largest_outcome (field_of r 4) in
    let kept = (neither (eqb (field_of r 0) 0 || ltb 3 (field_of r 0) || ltb 7 (field_of r 3) || ltb no_outcome (field_of r 5)) _ e).1 in
    omega (arith, ltb-false largest_outcome (field_of r 4) (sym (ap (λ (b : Bool). not b && large) (ne_eqb (field_of r 0) 1 n)) ∙ kept))

-- ---- the lookup

pub looked_up : {seen t : List ℕ} (r : List ℕ) (b : Bool) → b ≡ has_bit t (field_of r 4) → field_of r 4 ≤ largest_outcome
    → Entered seen t
    → (eqb (field_of r 0) 2 && b) || (eqb (field_of r 0) 3 && not b) ≡ bad_outcome seen r
unfolding bad_outcome
looked_up r b e l h =
    ap (λ (x : Bool). (eqb (field_of r 0) 2 && x) || (eqb (field_of r 0) 3 && not x)) (e ∙ h.bits (field_of r 4) l)

pub rotation_passes : (seen r : List ℕ) → field_of r 0 ≡ 1 → false ≡ bad_outcome seen r
unfolding bad_outcome
rotation_passes seen r e = rw e refl

-- ---- the outcome is entered, if it is measured

module _ {seen t : List ℕ} (r : List ℕ) where
  pub not_measured : (field_of r 0 ≡ 2 → ⊥) → Entered seen t → Entered (measured seen r) t
  unfolding measured
  not_measured n h = rw (if_false {A = List ℕ} _ _ (ne_eqb (field_of r 0) 2 n)) h

  pub now_measured : field_of r 0 ≡ 2 → field_of r 4 ≤ largest_outcome → Entered seen t
      → Entered (measured seen r) (with_bit t (field_of r 4))
  unfolding measured member any_of
  now_measured e l h =
      rw (if_true {A = List ℕ} _ _ (eq-eqb (field_of r 0) 2 e))
      (record {
        long = with_length t (field_of r 4) ∙ h.long;
        bits = λ o b. one_more_set t (field_of r 4) o (omega (arith, h.long))
            ∙ ap (λ (x : Bool). eqb o (field_of r 4) || x) (h.bits o b);
      })

-- ---- one operation: the three tests said b, d and f

module _ {nodes : ℕ} {seen r t : List ℕ} {b : Bool} (kind : b ≡ bad_operation r) where
  pub operation_bad : b ≡ true → Checked nodes seen r BadOperation t
  unfolding check_operation
  operation_bad e = record {
    answer = sym (if_true _ _ (sym kind ∙ e));
    entered = λ h. cc;
  }

  module _ (known : b ≡ false) {d : Bool} (reference : d ≡ bad_reference nodes (field_of r 1) (field_of r 2)) where
    pub reference_bad : d ≡ true → Checked nodes seen r BadReference t
    unfolding check_operation
    reference_bad e = record {
      answer = sym (if_false _ _ (sym kind ∙ known) ∙ if_true _ _ (sym reference ∙ e));
      entered = λ h. cc;
    }

    module _ (inside : d ≡ false) {f : Bool} (outcome : f ≡ bad_outcome seen r) where
      pub outcome_bad : f ≡ true → Checked nodes seen r BadOutcome t
      unfolding check_operation
      outcome_bad e = record {
        answer = sym (if_false _ _ (sym kind ∙ known) ∙ if_false _ _ (sym reference ∙ inside) ∙ if_true _ _ (sym outcome ∙ e));
        entered = λ h. cc;
      }

      pub operation_passes : f ≡ false → Entered (measured seen r) t → Checked nodes seen r Accepted t
      unfolding check_operation
      operation_passes e g = record {
        answer = sym (if_false _ _ (sym kind ∙ known) ∙ if_false _ _ (sym reference ∙ inside) ∙ if_false _ _ (sym outcome ∙ e));
        entered = λ h. g;
      }

-- ---- operations one after the other

-- the outcomes that the first i operations measure
unfoldable pub seen_by : ℕ → List ℕ → List ℕ
seen_by zero s = []
seen_by (suc i) s = measured (seen_by i s) (part s (i * 6) 6)

pub none_seen : (s : List ℕ) → Entered (seen_by 0 s) (replicate 1024 0)
unfolding seen_by member any_of
none_seen s = record { long = length-replicate {A = ℕ} 1024 0; bits = λ o h. none_set 1024 o (omega arith) }

pub seen_next : (i : ℕ) (s : List ℕ) {t : List ℕ} → Entered (measured (seen_by i s) (take (i * 6 + 6 - i * 6) (drop (i * 6) s))) t
    → Entered (seen_by (i + 1) s) t
unfolding seen_by
seen_next i s {t} h = rw (add-one i) (rw (part_cut s (i * 6) 6) at h)

pub operations_walk : (nodes : ℕ) (s : List ℕ)
    → Walks 6 s (λ i. check_operation nodes (seen_by i s)) (λ i. check_operations nodes (seen_by i s))
unfolding check_operations seen_by
operations_walk nodes s = record { at_end = λ i. refl; next_first = λ i rs. refl }
