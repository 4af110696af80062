-- The test at each place is the test of its operation. Assumes nothing.
use native.Mathlib.Omega.{arith}
use mathlib.Core.Path.{◌∙◌}
use borrow.Author.Rules.{rules}
use Rattle.std.proofs.Common.{tests}
use Rattle.std.proofs.lemmas.Iterator.{YieldsList-from_range}
use Rattle.std.proofs.lemmas.Iterator.Consumers.{YieldsList-from_filter, count_from_yields_List}
use Rattle.records.specs.Operations.{operation_here}
use Rattle.counters.specs.Total.{count_places}
use Rattle.counters.specs.Source.{is_odd_source, source_t_count_lem}
use Rattle.counters.proofs.t_before.Goals as goal

pub returns : goal.returns
returns c =
    count_from_yields_List _ _ c.count.ensures.ran
    (YieldsList-from_filter _ (λ j. is_odd_source (operation_here c.args.operations.now j))
    (YieldsList-from_range 0 c.args.count c.args.count c.filter.ensures.source (omega arith)) c.filter.ensures.closure
    (λ x b q k. search (rules, tests)))
    ∙ count_places _ _ _ ∙ source_t_count_lem _ _
