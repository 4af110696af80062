-- The record's kind is tested. Assumes nothing.
use mathlib.Core.Path.{ap, ◌∙◌}
use Rattle.model.specs.Program.{is_rotate}
use Rattle.records.specs.declared.OperationRecord.{OperationRecord}
use Rattle.records.specs.Records.{operation_said}
use Rattle.counters.specs.Source.{rotate_source}
use Rattle.counters.proofs.is_rotate_source.Goals as goal

pub returns : goal.returns
returns c =
    let o = c.operation in
    c.eq.ensures ∙ rotate_source o.result ∙ ap (λ (x : OperationRecord). is_rotate (operation_said x).kind) o.ensures
