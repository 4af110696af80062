-- The needs of each call, and how the turn ends, from the steps of specs/Place.antt. Assumes nothing.
use mathlib.Core.Path.{sym, ◌∙◌}
use Rattle.std.proofs.lemmas.Result.{err_from_is_err_and}
use Rattle.packing.specs.Place.{evaluate_pre, children_pre, take_pre, keep_pre, place_next, rest_next, place_limit, rest_limit}
use Rattle.packing.proofs.place_node.Goals as goal

pub evaluate-phase-requires : goal.evaluate-phase-requires
evaluate-phase-requires c = evaluate_pre c.requires.it

pub release_children-free-requires : goal.release_children-free-requires
release_children-free-requires c = children_pre c.requires.it

pub take_slot-requires : goal.take_slot-requires
take_slot-requires c = take_pre c.requires.it c.evaluate-phase.ensures c.release_children-free.ensures

pub keep-requires : goal.keep-requires
keep-requires c =
    keep_pre c.requires.it c.evaluate-phase.ensures c.release_children-free.ensures
    (sym c.take_slot.ensures ∙ c.in_ok-after.was)

pub returns : goal.returns
returns c = (
  rest_next c.requires.it c.evaluate-phase.ensures c.release_children-free.ensures
      (sym c.take_slot.ensures ∙ c.in_ok-after.was) c.keep.ensures,
  λ p h. place_next h c.evaluate-phase.ensures
      c.release_children-free.ensures (sym c.take_slot.ensures ∙ c.in_ok-after.was) c.keep.ensures,
)

pub returns-in_err-after : goal.returns-in_err-after
returns-in_err-after c =
    let full = err_from_is_err_and c.from_residual.result c.from_residual.ensures.1 in
    rw (full.1, full.2) (
      rest_limit c.requires.it c.evaluate-phase.ensures c.release_children-free.ensures,
      λ p h. place_limit h
          c.evaluate-phase.ensures c.release_children-free.ensures
          (sym c.take_slot.ensures ∙ c.in_err-after.was),
    )
