-- The rest, moved from the state that memory holds, gives the shift of all. Assumes nothing.
use Rattle.sweeps.specs.Moves.{MovedTo}
use Rattle.sweeps.proofs.sweep.move_rotations.Given as goal

abbrev pub invariant-loop-i : goal.invariant-loop-i
invariant-loop-i l = MovedTo l.z l.words l.initial.numbers l.initial.s l.from l.end l.i l.s l.numbers
