-- A measurement, or an axis. Assumes nothing.
use mathlib.Core.Path.{sym, ap, ◌∙◌}
use Rattle.model.specs.Packing.{SignedAxis}
use Rattle.records.specs.Kinds.{measure_test}
use Rattle.counters.specs.SourceWeight.{source_none, source_some}
use Rattle.counters.proofs.operation_weight.Goals as goal

pub returns-then-eq : goal.returns-then-eq
returns-then-eq c = source_none _ _ _ _ _ _ _ c.operation.ensures (sym (measure_test _) ∙ sym c.if-eq.ensures)

pub returns : goal.returns
returns c =
    source_some _ _ _ _ _ _ _ _ _ c.operation.ensures (sym (measure_test _) ∙ sym c.if-eq.ensures)
    (ap (λ (s : SignedAxis). s.axis) c.root_at-f.ensures) c.axis_weight.ensures
