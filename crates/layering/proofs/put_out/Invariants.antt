-- The first i are put out. Assumes nothing.
use Rattle.layering.specs.Segment.{OutTo}
use Rattle.layering.proofs.put_out.Given as goal

abbrev pub invariant-loop-i : goal.invariant-loop-i
invariant-loop-i l = OutTo l.u l.initial.numbers l.n l.out l.i l.numbers
