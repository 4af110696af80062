-- The model's three tests, one after the other; then the outcome is entered. Assumes nothing.
use mathlib.Core.Path.{sym, ◌∙◌}
use Rattle.checking.specs.Outcomes.{operation_bad, reference_bad, outcome_bad, operation_passes}
use Rattle.checking.proofs.check_operation.Goals as goal

pub returns-then-bad_operation : goal.returns-then-bad_operation
returns-then-bad_operation c = λ seen h. operation_bad c.bad_operation.ensures c.if-bad_operation.true

pub returns-then-bad_reference : goal.returns-then-bad_reference
returns-then-bad_reference c =
    λ seen h. reference_bad c.bad_operation.ensures c.if-bad_operation.false c.bad_reference.ensures
    c.if-bad_reference.true

pub bad_outcome-requires : goal.bad_outcome-requires
bad_outcome-requires c = (c.requires, sym c.bad_operation.ensures ∙ c.if-bad_operation.false)

pub returns-then-bad_outcome : goal.returns-then-bad_outcome
returns-then-bad_outcome c =
    λ seen h. outcome_bad c.bad_operation.ensures c.if-bad_operation.false c.bad_reference.ensures
    c.if-bad_reference.false (c.bad_outcome.ensures seen h) c.if-bad_outcome.true

pub enter_measured-requires : goal.enter_measured-requires
enter_measured-requires c = (c.requires, sym c.bad_operation.ensures ∙ c.if-bad_operation.false)

pub returns : goal.returns
returns c =
    λ seen h. operation_passes c.bad_operation.ensures c.if-bad_operation.false c.bad_reference.ensures
    c.if-bad_reference.false (c.bad_outcome.ensures seen h) c.if-bad_outcome.false (c.enter_measured.ensures seen h)
