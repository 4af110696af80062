-- The rest, joined to the layers that memory holds, gives the layers of all. Assumes nothing.
use Rattle.layers.specs.Joining.{JoinedTo}
use Rattle.layers.proofs.join_items.Given as goal

abbrev pub invariant-loop-i : goal.invariant-loop-i
invariant-loop-i l = JoinedTo l.z l.words l.initial.numbers l.from l.end l.i l.st l.numbers
