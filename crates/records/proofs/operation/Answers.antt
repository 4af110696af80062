-- The operation that the numbers say. Assumes nothing.
use Rattle.std.proofs.Common.{ap, ◌∙◌}
use Rattle.records.specs.Numbers.{operation_numbered, operation_numbered_lem}
use Rattle.records.proofs.operation.Goals as goal

pub returns : goal.returns
returns c = c.into.ensures ∙ ap operation_numbered c.operation_at.ensures ∙ operation_numbered_lem _ _
