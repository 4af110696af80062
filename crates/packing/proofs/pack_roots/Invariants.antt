-- The loop is along the node's links. Assumes nothing.
use Prim.Native.Nat.{◌+◌, ◌*◌}
use Rattle.packing.specs.RootsLoop.{Along, references_left}
use Rattle.packing.proofs.pack_roots.Given as goal

abbrev pub invariant-loop-next : goal.invariant-loop-next
invariant-loop-next l =
    Along l.shape l.fn.placed l.n l.records.operations.now l.records.rows.now l.initial.words l.initial.numbers l.words l.numbers l.st l.next

abbrev pub decreases-loop-next : goal.decreases-loop-next
decreases-loop-next l = references_left (l.shape.operations + 2 * l.shape.qubits) l.next
