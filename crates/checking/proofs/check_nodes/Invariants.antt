-- The loop's invariant: what is left to check from record i on answers for all. Assumes nothing.
use Prim.Native.Nat.{◌-◌}
use Rattle.model.specs.Checking.{check_nodes}
use Rattle.checking.specs.Walk.{LeftFrom}
use Rattle.checking.proofs.check_nodes.Given as goal

abbrev pub invariant-loop-i : goal.invariant-loop-i
invariant-loop-i l = LeftFrom 5 l.count l.nodes (check_nodes l.qubits) l.i

abbrev pub decreases-loop-i : goal.decreases-loop-i
decreases-loop-i l = l.count - l.i
