-- The phase of a reference in the lent slices: operations first, then frame rows. Assumes nothing.
use Rattle.std.specs.Prelude.{◌≡◌, List, ℕ, ◌+◌, ◌-◌, ◌*◌, ◌≤◌, ◌<◌, ltb, length}
use Rattle.std.proofs.Math.Path.{sym, ap}
use Rattle.std.proofs.Common.{◌∙◌, lt-ltb, le-ltb}
use Rattle.model.specs.Lists.{when◌then◌else◌}
use Rattle.theory.specs.Cases.{if_true, if_false}
use Rattle.records.specs.declared.OperationRecord.{OperationRecord}
use Rattle.records.specs.declared.RowRecord.{RowRecord}
use Rattle.records.specs.Records.{operation_record, row_record}

-- reference j has its record
pub record PhasePre (count : ℕ) (os rs : List ℕ) (j : ℕ) : Type 0 where
  pub operation : j < count → j * 6 + 6 ≤ length os
  pub row : count ≤ j → (j - count) * 4 + 4 ≤ length rs

-- its phase
unfoldable pub phase_in : ℕ → List ℕ → List ℕ → ℕ → ℕ
phase_in count os rs j = when ltb j count then (operation_record os j).phase else (row_record rs (j - count)).phase

-- what the code answers, from the record that it read
module _ (count : ℕ) (os rs : List ℕ) (j : ℕ) where
  pub phase_operation : (r : OperationRecord) → j < count → r ≡ operation_record os j → r.phase ≡ phase_in count os rs j
  unfolding phase_in
  phase_operation r h e = ap (λ (x : OperationRecord). x.phase) e ∙ sym (if_true _ _ (lt-ltb j count h))

  pub phase_row_lem : (r : RowRecord) → count ≤ j → r ≡ row_record rs (j - count) → r.phase ≡ phase_in count os rs j
  unfolding phase_in
  phase_row_lem r h e = ap (λ (x : RowRecord). x.phase) e ∙ sym (if_false _ _ (le-ltb j count h))
