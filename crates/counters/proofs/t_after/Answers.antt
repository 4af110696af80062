-- The test at each place is the test of its item's record. Assumes nothing.
use mathlib.Core.Path.{ap, ◌∙◌}
use borrow.Author.Rules.{rules}
use Rattle.std.proofs.Common.{tests}
use Rattle.std.proofs.lemmas.Iterator.{YieldsList-from_range}
use Rattle.std.proofs.lemmas.Iterator.Consumers.{YieldsList-from_filter, count_from_yields_List}
use Prim.Native.Nat.{ℕ, max}
use native.Mathlib.Omega.{arith}
use Rattle.layout.specs.Rows.{items_row}
use Rattle.items.specs.View.{tagged_at}
use Rattle.counters.specs.Total.{one_if, count_places, total_same}
use Rattle.counters.specs.After.{odd_here, odd_all}
use Rattle.counters.proofs.t_after.Goals as goal

-- a test of every place needs a count that serves there
pub returns : goal.returns
returns c count h =
    let a = c.args in
    let tag : ℕ → ℕ = λ j. (tagged_at a.numbers.now a.u items_row j).tag in
    count_from_yields_List _ _ c.count.ensures.ran
    (YieldsList-from_filter _ (λ j. odd_here (max count (tag j)) a.operations.now a.numbers.now a.u j)
    (YieldsList-from_range 0 c.args.k c.args.k c.filter.ensures.source (omega arith)) c.filter.ensures.closure
    (λ x b q k. search (rules, tests)))
    ∙ count_places _ _ _
    ∙ total_same _ _ 0 a.k (λ j b l. ap (λ (n : ℕ). one_if (odd_here n a.operations.now a.numbers.now a.u j)) (omega (arith, h j (omega arith))))
    ∙ odd_all _ _ _ _ _
