-- They are absorbed at once, and x is the named barrier. Assumes nothing.
use mathlib.Core.Path.{◌∙◌}
use Rattle.stream_items.specs.Behind.{not_begins, begins_named}
use Rattle.stream_items.proofs.begins.Goals as goal

pub returns-then-is_at_once : goal.returns-then-is_at_once
returns-then-is_at_once c = begins_named c.args.rules c.args.x c.is_at_once.ensures c.if-is_at_once.true c.is_named.ensures

pub returns-else-is_at_once : goal.returns-else-is_at_once
returns-else-is_at_once c = c.if-is_at_once.false ∙ not_begins c.args.rules c.args.x c.is_at_once.ensures c.if-is_at_once.false
