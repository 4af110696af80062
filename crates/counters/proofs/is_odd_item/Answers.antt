-- The record that comes out is tested. Assumes nothing.
use mathlib.Core.Path.{sym, ◌∙◌}
use Rattle.counters.specs.Source.{and_yes, and_no}
use Rattle.counters.specs.After.{odd_item}
use Rattle.counters.proofs.is_odd_item.Goals as goal

pub returns-then-ne : goal.returns-then-ne
returns-then-ne c = odd_item _ _ _ (rw c.item_at-x.ensures at c.record_of-r.ensures) (and_yes _ (sym c.if-ne.ensures))

pub returns-else-ne : goal.returns-else-ne
returns-else-ne c =
    odd_item _ _ _ (rw c.item_at-x.ensures at c.record_of-r.ensures) (c.ne.ensures ∙ and_no _ (sym c.if-ne.ensures))
