-- The first item that is no rotation, found by its tag. Assumes nothing.
use Rattle.std.proofs.Common.{◌≡◌, rules, tests}
use Rattle.std.proofs.lemmas.Iterator.{first_from_Range}
use Rattle.layout.specs.Rows.{items_row}
use Rattle.items.specs.View.{tagged_at}
use Rattle.segments.specs.End.{end_found}
use Rattle.segments.proofs.segment_end.Goals as goal

pub returns : goal.returns
returns c =
    let a = c.args in
    rw c.unwrap_or.ensures
    (end_found _ _ _ _ _ c.requires.order
    (first_from_Range _ _ _ _ (λ i. (tagged_at a.numbers.now a.u items_row i).tag ≡ 0 → ⊥)
    (λ i. (tagged_at a.numbers.now a.u items_row i).tag ≡ 0) c.find.ensures.ran
    (λ x q k. search (rules, tests)) (λ x q k. search (rules, tests))))
