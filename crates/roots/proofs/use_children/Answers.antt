-- A leaf and an unused node use none; a used product uses both its children. Assumes nothing.
use mathlib.Core.Path.{sym, ◌∙◌}
use Rattle.roots.specs.UseLaws.{leaf_used, unused, second_add, both_used}
use Rattle.roots.proofs.use_children.Goals as goal

pub returns-in_default : goal.returns-in_default
returns-in_default c = leaf_used _ _ _ _ c.node.ensures c.in_default.not-Product

pub returns-then-read-eq0 : goal.returns-then-read-eq0
returns-then-read-eq0 c = unused _ _ _ _ (sym c.read.ensures ∙ c.if-read-eq0.true)

pub add_use-requires-2 : goal.add_use-requires-2
add_use-requires-2 c = second_add c.in-Product.ensures c.requires c.add_use.ensures

pub returns : goal.returns
returns c = both_used c.in-Product.ensures (λ z. c.if-read-eq0.false (c.read.ensures ∙ z)) c.add_use.ensures c.add_use-2.ensures
