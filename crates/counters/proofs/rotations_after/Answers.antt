-- The test at each place is the test of its item. Assumes nothing.
use native.Mathlib.Omega.{arith}
use mathlib.Core.Path.{◌∙◌}
use borrow.Author.Rules.{rules}
use Rattle.std.proofs.Common.{tests}
use Rattle.std.proofs.lemmas.Iterator.{YieldsList-from_range}
use Rattle.std.proofs.lemmas.Iterator.Consumers.{YieldsList-from_filter, count_from_yields_List}
use Rattle.model.specs.Items.{is_rotation}
use Rattle.layout.specs.Rows.{items_row}
use Rattle.items.specs.View.{item_at}
use Rattle.counters.specs.Total.{count_places}
use Rattle.counters.specs.After.{rotations_are}
use Rattle.counters.proofs.rotations_after.Goals as goal

pub returns : goal.returns
returns c =
    count_from_yields_List _ _ c.count.ensures.ran
    (YieldsList-from_filter _ (λ j. is_rotation (item_at c.args.numbers.now c.args.u items_row j))
    (YieldsList-from_range 0 c.args.k c.args.k c.filter.ensures.source (omega arith)) c.filter.ensures.closure
    (λ x b q k. search (rules, tests)))
    ∙ count_places _ _ _ ∙ rotations_are _ _ _
