-- The counters of the program that was handed in. Assumes nothing.
use Rattle.std.specs.Prelude.{◌≡◌, refl, Bool, true, false, not, ◌&&◌, List, ℕ, ◌+◌, ◌%◌, ◌<◌, eqb}
use denote.Enum.Bare.{sameb}
use Rattle.std.proofs.Common.{sym, ap, ◌∙◌, arith, ext_get_or}
use Rattle.store.specs.From.{list_from, from_length, from_at}
use Rattle.model.specs.Lists.{count_of, is_odd}
use Rattle.model.specs.Program.{is_measure, is_rotate, Operation}
use Rattle.model.specs.Results.{no_operation, source_t_count, source_rotations}
use Rattle.records.specs.declared.OperationKind.TheVariants.{Rotate, Measure}
use Rattle.records.specs.contracts.OperationKind.{the_type}
use Rattle.records.specs.declared.OperationRecord.{OperationRecord}
use Rattle.records.specs.Kinds.{measure_test, rotate_test}
use Rattle.records.specs.Records.{operation_said}
use Rattle.records.specs.Operations.{operations_in, operation_here, operations_count, operation_here_lem}
use Rattle.counters.specs.Total.{total, one_if, count_from}

-- the operations by number
pub operations_from : (count : ℕ) (os : List ℕ) → operations_in count os ≡ list_from (operation_here os) 0 count
operations_from count os =
    ext_get_or no_operation (operations_in count os) (list_from (operation_here os) 0 count)
    (operations_count count os ∙ sym (from_length (operation_here os) 0 count))
    (λ i l.
    let h : i < count = omega (arith, operations_count count os) in
    operation_here_lem count os i h ∙ ap (operation_here os) (let z : i ≡ 0 + i = omega arith in z)
    ∙ sym (from_at (operation_here os) 0 count i no_operation h))

-- ---- tests

-- what two tests answer, by the first
pub and_yes : {a : Bool} (b : Bool) → a ≡ true → b ≡ a && b
and_yes b e = rw e refl

pub and_no : {a : Bool} (b : Bool) → a ≡ false → a ≡ a && b
and_no b e = rw e refl

-- ---- T-count: odd rotations, plain and conditional

unfoldable pub is_odd_source : Operation → Bool
is_odd_source o = not (is_measure o.kind) && is_odd o.angle

-- what the code tests
pub odd_source : (o : OperationRecord) → not (sameb the_type o.kind Measure) && eqb (o.angle % 2) 1 ≡ is_odd_source (operation_said o)
unfolding is_odd_source operation_said
odd_source o = rw (measure_test o.kind) refl

pub source_t_count_lem : (count : ℕ) (os : List ℕ)
    → total (λ j. one_if (is_odd_source (operation_here os j))) 0 count ≡ source_t_count (operations_in count os)
unfolding source_t_count is_odd_source
source_t_count_lem count os =
    sym (ap (count_of (λ (o : Operation). not (is_measure o.kind) && is_odd o.angle)) (operations_from count os)
    ∙ count_from (λ (o : Operation). not (is_measure o.kind) && is_odd o.angle) (operation_here os) 0 count)

-- ---- plain rotations

pub rotate_source : (o : OperationRecord) → sameb the_type o.kind Rotate ≡ is_rotate (operation_said o).kind
unfolding operation_said
rotate_source o = rotate_test o.kind

pub source_rotations_lem : (count : ℕ) (os : List ℕ)
    → total (λ j. one_if (is_rotate (operation_here os j).kind)) 0 count ≡ source_rotations (operations_in count os)
unfolding source_rotations
source_rotations_lem count os =
    sym (ap (count_of (λ (o : Operation). is_rotate o.kind)) (operations_from count os)
    ∙ count_from (λ (o : Operation). is_rotate o.kind) (operation_here os) 0 count)
