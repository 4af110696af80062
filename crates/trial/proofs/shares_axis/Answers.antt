-- A rotation of the first group that has its partner in the third, found in turn. Assumes nothing.
use Rattle.std.proofs.Common.{sym, ◌∙◌, rules, tests}
use Rattle.layout.specs.Rows.{items_row}
use Rattle.items.specs.View.{rot_at, rots_to}
use Rattle.certificate.specs.Ranges.{any_over}
use Rattle.trial.specs.Sharing.{partnered, shared_from, shared_is, shared_turn, shared_none}
use Rattle.trial.proofs.shares_axis.Goals as goal

pub returns : goal.returns
returns c =
    let a = c.args in
    let others = rots_to a.numbers.now a.u items_row a.t.third a.t.end in
    any_over _ _ _ (λ i. partnered a.eager others (rot_at a.numbers.now a.u items_row i))
    (λ i. shared_from a.numbers.now a.u items_row a.eager others i a.t.second)
    c.any.ensures.ran (λ x b q k. search (rules, tests)) (λ i low. shared_turn _ _ _ _ _ _ _ low) (λ i over. shared_none _ _ _ _ _ _ _ over)
    ∙ sym (shared_is _ _ _ _ _ _ _)
