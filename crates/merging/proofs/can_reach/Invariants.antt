-- The outputs from i on let the axis pass. Assumes nothing.
use Rattle.merging.specs.Reach.{Passed}
use Rattle.merging.proofs.can_reach.Given as goal

abbrev pub invariant-loop-i : goal.invariant-loop-i
invariant-loop-i l = Passed l.axes.sizes l.out l.j l.id l.axes.words.now l.axes.numbers.now l.i

abbrev pub decreases-loop-i : goal.decreases-loop-i
decreases-loop-i l = l.i
