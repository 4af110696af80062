-- It moves into the open layer, or stays. Assumes nothing.
use Rattle.sweeps.specs.Moves.{move_commutes, move_joins, move_stays}
use Rattle.sweeps.proofs.sweep.move_rotation.Goals as goal

pub blocking-requires : goal.blocking-requires
blocking-requires c = move_commutes _ _ _ _ _ c.requires c.item_at-x.ensures

pub returns-in_default : goal.returns-in_default
returns-in_default c = move_joins _ _ _ _ _ c.requires c.item_at-x.ensures c.in_default.ensures c.join-joined.ensures

pub returns : goal.returns
returns c =
    let there = c.in-Some.ensures in
    move_stays _ _ _ _ _ c.requires c.item_at-x.ensures there.2 c.put_item.ensures
