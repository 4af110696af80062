-- An item about the axis, found in turn. Assumes nothing.
use Rattle.std.proofs.Common.{sym, ◌∙◌, rules, tests}
use Rattle.layout.specs.Rows.{items_row}
use Rattle.certificate.specs.Ranges.{any_over}
use Rattle.trial.specs.Sharing.{axis_here, axis_from, axis_is, axis_turn, axis_none}
use Rattle.trial.proofs.has_axis.Goals as goal

pub returns : goal.returns
returns c =
    let a = c.args in
    any_over _ _ _ (axis_here a.numbers.now a.u items_row a.eager a.axis) (λ j. axis_from a.numbers.now a.u items_row a.eager a.axis j a.e)
    c.any.ensures.ran (λ x b q k. search (rules, tests)) (λ j low. axis_turn _ _ _ _ _ _ _ low) (λ j over. axis_none _ _ _ _ _ _ _ over)
    ∙ sym (axis_is _ _ _ _ _ _ _)
