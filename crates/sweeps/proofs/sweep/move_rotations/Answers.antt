-- The rest, moved from the state that memory holds, gives the shift of all. Assumes nothing.
use Rattle.sweeps.specs.Moves.{moved_start, moved_need, moved_turn, moved_end}
use Rattle.sweeps.proofs.sweep.move_rotations.Goals as goal

pub loop-i-init : goal.loop-i-init
loop-i-init c = moved_start _ _ _ _ _ _ c.requires

pub move_rotation-s-requires : goal.move_rotation-s-requires
move_rotation-s-requires c = moved_need _ _ _ _ _ _ c.requires c.loop-i-test.true c.loop-i.invariant

pub loop-i-preserved : goal.loop-i-preserved
loop-i-preserved c = moved_turn _ _ _ _ _ _ c.requires c.loop-i-test.true c.loop-i.invariant c.move_rotation-s.ensures

pub returns : goal.returns
returns c = moved_end _ _ _ _ _ _ c.loop-i-test.false c.loop-i.invariant
