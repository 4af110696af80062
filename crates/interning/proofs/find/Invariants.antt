-- The loop's invariant: the walk stands at a place. Assumes nothing.
use Rattle.std.proofs.Common.{slice_index}
use Rattle.interning.specs.Find.{Walking, left}
use Rattle.interning.proofs.find.Given as goal

abbrev pub invariant-loop-axis : goal.invariant-loop-axis
invariant-loop-axis l = Walking l.axes.sizes l.axes.words.now l.axes.numbers.now l.w l.walk

abbrev pub decreases-loop-axis : goal.decreases-loop-axis
decreases-loop-axis l = left l.axes.sizes.axes (slice_index l.axes.numbers.now l.walk.place)
