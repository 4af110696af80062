-- The loop's invariant: the place is sought among the rotations before j. Assumes nothing.
use Rattle.std.proofs.Common.{◌∙◌, arith}
use Rattle.std.proofs.Math.Option.{none, some}
use Rattle.trial.specs.Plain.{place_found, found_none, found_further, found_here, found_blocked}
use Rattle.trial.proofs.merge_place.Goals as goal

pub loop-j-preserved : goal.loop-j-preserved
loop-j-preserved c =
    c.loop-j.invariant ∙ found_further _ _ _ _ _ _ c.loop-j-test.true _ _ c.item_at-y.ensures c.item_at-x.ensures c.meet.ensures
    c.in-Further.is

pub returns-in-Here : goal.returns-in-Here
returns-in-Here c =
    place_found _ _ _ _ _ (some _)
    (c.loop-j.invariant ∙ found_here _ _ _ _ _ _ c.loop-j-test.true _ _ c.item_at-y.ensures c.item_at-x.ensures c.meet.ensures
    c.in-Here.is)

pub returns-in-Blocked : goal.returns-in-Blocked
returns-in-Blocked c =
    place_found _ _ _ _ _ none
    (c.loop-j.invariant ∙ found_blocked _ _ _ _ _ _ c.loop-j-test.true _ _ c.item_at-y.ensures c.item_at-x.ensures c.meet.ensures
    c.in-Blocked.is)

pub returns : goal.returns
returns c = place_found _ _ _ _ _ none (c.loop-j.invariant ∙ found_none _ _ _ _ _ _ (omega (arith, c.loop-j-test.false)))
