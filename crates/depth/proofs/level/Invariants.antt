-- The loop's invariant: those above level v commute. Assumes nothing.
use Rattle.depth.specs.Looking.{LookedTo}
use Rattle.depth.proofs.level.Given as goal

abbrev pub invariant-loop-below : goal.invariant-loop-below
invariant-loop-below l = LookedTo l.axes.sizes l.axes.words.now l.axes.numbers.now l.st l.i l.axis l.below
