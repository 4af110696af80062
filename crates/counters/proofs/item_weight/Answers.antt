-- A measurement, or an axis. Assumes nothing.
use mathlib.Core.Path.{sym, ◌∙◌}
use Rattle.records.specs.Kinds.{measure_test}
use Rattle.counters.specs.Weight.{weight_none, weight_some}
use Rattle.counters.proofs.item_weight.Goals as goal

pub returns-then-eq : goal.returns-then-eq
returns-then-eq c =
    weight_none _ _ _ _ _ (rw c.item_at-x.ensures at c.record_of.ensures) (sym (measure_test _) ∙ sym c.if-eq.ensures)

pub returns : goal.returns
returns c =
    weight_some _ _ _ _ _ _ (rw c.item_at-x.ensures at c.record_of.ensures) (sym (measure_test _) ∙ sym c.if-eq.ensures)
    (rw c.item_at-x.ensures at c.axis_weight.ensures)
