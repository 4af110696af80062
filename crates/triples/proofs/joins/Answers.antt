-- A run as long as the window takes no more. Assumes nothing.
use Rattle.std.proofs.Common.{◌∙◌, le-ltb}
use Rattle.triples.specs.Runs.{item_entry, items_commute, joins_full, joins_open}
use Rattle.triples.proofs.joins.Goals as goal

pub axis_at-axis-requires : goal.axis_at-axis-requires
axis_at-axis-requires c = item_entry c.requires.0 c.requires.1 c.args.axes.stored

pub commutes_with_all-requires : goal.commutes_with_all-requires
commutes_with_all-requires c = items_commute c.requires.0 c.requires.1 c.axis_at-axis.ensures

pub returns-then-e-start : goal.returns-then-e-start
returns-then-e-start c = joins_open c.args.axes.sizes _ _ _ _ _ c.if-e-start.true c.axis_at-axis.ensures c.commutes_with_all.ensures

pub returns-else-e-start : goal.returns-else-e-start
returns-else-e-start c = le-ltb _ _ c.if-e-start.false ∙ joins_full c.args.axes.sizes _ _ _ _ _ c.if-e-start.false
