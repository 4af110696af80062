-- An item as the record that comes out. Assumes nothing.
use Rattle.std.specs.Prelude.{◌≡◌, refl, false, List, [], ◌∷◌, ℕ, ◌+◌, ◌-◌, ◌*◌, ◌≤◌, ◌<◌, length}
use Rattle.std.proofs.Common.{sym, ap, ◌∙◌, true≢false, arith}
use Rattle.model.specs.Program.{is_measure, is_rotate, Operation, no_outcome}
use Rattle.model.specs.Items.{with_sign}
use Rattle.model.specs.Results.{sign_field, barrier_record, item_record}
use Rattle.records.specs.declared.OperationKind.{OperationKind}
use Rattle.records.specs.declared.OperationKind.TheVariants.{Rotate, Measure, Conditional}
use Rattle.records.specs.declared.OperationRecord.{OperationRecord}
use Rattle.records.specs.Kinds.{kind_number, kind_said}
use Rattle.records.specs.Records.{operation_record, operation_said}
use Rattle.records.specs.Operations.{operations_in, operation_here_lem}
use Rattle.items.specs.declared.Tagged.{Tagged}
use Rattle.layout.specs.Rows.{row_count, items_row}
use Rattle.items.specs.View.{tagged_at, item_said, said_rotation, said_other}
use Rattle.items.specs.Put.{EntryPre}
use Rattle.results.specs.declared.OperationResult.{OperationResult}

-- "operations (kind, id, sign, angle, outcome, target)"
abbrev pub operation_fields : OperationResult → List ℕ
operation_fields r = kind_number r.kind ∷ r.axis ∷ r.sign ∷ r.angle ∷ r.outcome ∷ r.target ∷ []

-- ---- barriers

-- a measurement
pub measure_record : (o : OperationRecord) (a s : ℕ) (r : OperationResult) → o.kind ≡ Measure
    → r.kind ≡ Measure → r.axis ≡ a → r.sign ≡ sign_field s → r.angle ≡ 0 → r.outcome ≡ o.outcome → r.target ≡ o.target
    → operation_fields r ≡ barrier_record (operation_said o) (kind_said o.kind) a s
unfolding barrier_record operation_said
measure_record o a s r k b c d e f g = rw (k, b, c, d, e, f, g) refl

-- a conditional rotation
pub conditional_kind : (k : OperationKind) → is_rotate (kind_said k) ≡ false → is_measure (kind_said k) ≡ false → k ≡ Conditional
conditional_kind Rotate r m = absurd (true≢false r)
conditional_kind Measure r m = absurd (true≢false m)
conditional_kind Conditional r m = refl

pub conditional_record : (o : OperationRecord) (a s : ℕ) (r : OperationResult) → o.kind ≡ Conditional
    → r.kind ≡ Conditional → r.axis ≡ a → r.sign ≡ 1 → r.angle ≡ with_sign s o.angle → r.outcome ≡ o.outcome → r.target ≡ no_outcome
    → operation_fields r ≡ barrier_record (operation_said o) (kind_said o.kind) a s
unfolding barrier_record operation_said
conditional_record o a s r k b c d e f g = rw (k, b, c, d, e, f, g) refl

-- ---- an item

-- operation o is a barrier's
pub record Barrier (os : List ℕ) (o : ℕ) : Type 0 where
  pub long : o * 6 + 6 ≤ length os
  pub kind : is_rotate (kind_said (operation_record os o).kind) ≡ false
  pub angle : (operation_record os o).angle ≤ 7

-- x is a rotation, or a barrier's operation is there
abbrev pub RecordPre : List ℕ → Tagged → Type 0
RecordPre os x = (x.tag ≡ 0 → ⊥) → Barrier os (x.tag - 1)

-- r is x's record
abbrev pub RecordMade : List ℕ → Tagged → OperationResult → Type 0
RecordMade os x r = (count : ℕ) → x.tag ≤ count → operation_fields r ≡ item_record (operations_in count os) (item_said x)

pub rotation_record : (os : List ℕ) (x : Tagged) (r : OperationResult) → x.tag ≡ 0
    → r.kind ≡ Rotate → r.axis ≡ x.axis → r.sign ≡ 1 → r.angle ≡ x.angle → r.outcome ≡ no_outcome → r.target ≡ no_outcome
    → RecordMade os x r
unfolding item_record
rotation_record os x r t a b c d e f count h = rw (said_rotation x t, a, b, c, d, e, f) refl

pub barrier_record_lem : (os : List ℕ) (x : Tagged) (r : OperationResult) (o : OperationRecord) → (x.tag ≡ 0 → ⊥)
    → o ≡ operation_record os (x.tag - 1) → operation_fields r ≡ barrier_record (operation_said o) (kind_said o.kind) x.axis x.angle
    → RecordMade os x r
unfolding item_record operation_said
barrier_record_lem os x r o n e m count h =
    m
    ∙ ap (λ (y : OperationRecord). barrier_record (operation_said y) (kind_said y.kind) x.axis x.angle) e
    ∙ ap (λ (y : Operation). barrier_record y y.kind x.axis x.angle) (sym (operation_here_lem count os (x.tag - 1) (omega (arith, n))))
    ∙ sym (ap (item_record (operations_in count os)) (said_other x n))

-- ---- the items that come out

-- item i is there
pub record ItemPre (os xs : List ℕ) (u i : ℕ) : Type 0 where
  pub entry : EntryPre xs u items_row i
  pub barrier : RecordPre os (tagged_at xs u items_row i)

-- k items are there
pub record ItemsPre (os xs : List ℕ) (u k : ℕ) : Type 0 where
  pub long : row_count * u ≤ length xs
  pub fits : k ≤ u
  pub barriers : (i : ℕ) → i < k → RecordPre os (tagged_at xs u items_row i)

pub items_item : {os xs : List ℕ} {u k : ℕ} → ItemsPre os xs u k → (i : ℕ) → i < k → ItemPre os xs u i
items_item pre i h =
    let a = pre.fits in
    record { entry = record { long = pre.long; rows = omega arith; here = omega arith }; barrier = pre.barriers i h }

-- the operations of those that are barriers are among the first count
abbrev pub TagsTo : List ℕ → ℕ → ℕ → ℕ → Type 0
TagsTo xs u k count = (j : ℕ) → j < k → (tagged_at xs u items_row j).tag ≤ count
