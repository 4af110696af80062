-- Those from i on are above j. Assumes nothing.
use Rattle.waiting.specs.Inserting.{Above}
use Rattle.waiting.proofs.up_to.Given as goal

abbrev pub invariant-loop-i : goal.invariant-loop-i
invariant-loop-i l = Above l.u l.n l.j l.numbers l.i

abbrev pub decreases-loop-i : goal.decreases-loop-i
decreases-loop-i l = l.i
