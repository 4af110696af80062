-- It merges at the place that was found, or nowhere. Assumes nothing.
use Rattle.trial.specs.Plain.{merge_pre, place_before, turned_none, turned_some}
use Rattle.trial.proofs.merge_turn.Goals as goal

pub merge_at-requires : goal.merge_at-requires
merge_at-requires c =
    merge_pre c.requires.0 _ _ (place_before c.requires.0 _ _ c.merge_place.ensures c.in-Some.is) c.requires.1

pub returns-in-Some : goal.returns-in-Some
returns-in-Some c = turned_some c.requires.0 c.requires.1 c.merge_place.ensures c.in-Some.is c.merge_at.ensures

pub returns-in_default : goal.returns-in_default
returns-in_default c = turned_none c.requires.0 _ c.requires.1 c.merge_place.ensures c.in_default.is
