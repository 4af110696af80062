-- The record's kind and angle are tested. Assumes nothing.
use mathlib.Core.Path.{sym, ap, ◌∙◌}
use Rattle.records.specs.declared.OperationRecord.{OperationRecord}
use Rattle.records.specs.Records.{operation_said}
use Rattle.counters.specs.Source.{is_odd_source, odd_source, and_yes, and_no}
use Rattle.counters.proofs.is_odd_source.Goals as goal

pub returns-then-ne : goal.returns-then-ne
returns-then-ne c =
    let o = c.operation-o in
    and_yes _ (sym c.if-ne.ensures)
    ∙ odd_source o.result ∙ ap (λ (x : OperationRecord). is_odd_source (operation_said x)) o.ensures

pub returns-else-ne : goal.returns-else-ne
returns-else-ne c =
    let o = c.operation-o in
    c.ne.ensures ∙ and_no _ (sym c.if-ne.ensures)
    ∙ odd_source o.result ∙ ap (λ (x : OperationRecord). is_odd_source (operation_said x)) o.ensures
