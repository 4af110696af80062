-- The operations from i on are linked, in front of the frame rows. Assumes nothing.
use Rattle.roots.specs.Linking.{OperationsAt}
use Rattle.roots.proofs.link_operations.Given as goal

abbrev pub invariant-loop-i : goal.invariant-loop-i
invariant-loop-i l = OperationsAt l.shape l.operations l.initial.numbers l.i l.numbers
