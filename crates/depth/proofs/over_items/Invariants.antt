-- Whatever is left, its depth from the state that memory holds is the whole T-depth. Assumes nothing.
use Rattle.depth.specs.ItemsLoop.{DepthAt}
use Rattle.depth.proofs.over_items.Given as goal

abbrev pub invariant-loop-i : goal.invariant-loop-i
invariant-loop-i l = DepthAt l.z l.words l.initial.numbers l.count l.i l.st l.numbers
