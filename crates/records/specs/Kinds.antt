-- An operation's kind: its number, what it says in the model, and the tests of it. Assumes nothing.
use Rattle.std.specs.Prelude.{◌≡◌, refl, ℕ, zero, suc, eqb}
use denote.Enum.Bare.{sameb}
use Rattle.model.specs.Program.{Kind, rotate, measure, conditional, kind_of, is_measure, is_rotate}
use Rattle.records.specs.declared.OperationKind.{OperationKind}
use Rattle.records.specs.declared.OperationKind.TheVariants.{Rotate, Measure, Conditional}
use Rattle.records.specs.contracts.OperationKind.{the_type}

-- the kind of this number, as the model reads it
abbrev pub kind_record : ℕ → OperationKind
kind_record zero = Rotate
kind_record (suc zero) = Rotate
kind_record (suc (suc zero)) = Measure
kind_record (suc (suc (suc k))) = Conditional

-- "kind 1 rotate, 2 measure, 3 conditional"
abbrev pub kind_number : OperationKind → ℕ
kind_number Rotate = 1
kind_number Measure = 2
kind_number Conditional = 3

-- in the model's words
abbrev pub kind_said : OperationKind → Kind
kind_said Rotate = rotate
kind_said Measure = measure
kind_said Conditional = conditional

pub kind_of_lem : (k : ℕ) → kind_of k ≡ kind_said (kind_record k)
kind_of_lem zero = refl
kind_of_lem (suc zero) = refl
kind_of_lem (suc (suc zero)) = refl
kind_of_lem (suc (suc (suc k))) = refl

-- ---- tests

-- what == answers
pub rotate_test : (k : OperationKind) → sameb the_type k Rotate ≡ is_rotate (kind_said k)
rotate_test Rotate = refl
rotate_test Measure = refl
rotate_test Conditional = refl

pub measure_test : (k : OperationKind) → sameb the_type k Measure ≡ is_measure (kind_said k)
measure_test Rotate = refl
measure_test Measure = refl
measure_test Conditional = refl

-- a test of the number
pub number_test : (k : OperationKind) → eqb (kind_number k) 2 ≡ is_measure (kind_said k)
number_test Rotate = refl
number_test Measure = refl
number_test Conditional = refl
