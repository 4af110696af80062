-- The loop's invariant: the first i items' records are laid. Assumes nothing.
use Prim.Native.Nat.{◌≤◌}
use Rattle.results.specs.Operations.{OperationsLaid}
use Rattle.results.proofs.write_operations.Given as goal

abbrev pub invariant-loop-i : goal.invariant-loop-i
invariant-loop-i l = (l.i ≤ l.k) × OperationsLaid l.operations l.numbers l.u l.i l.initial.to l.to
