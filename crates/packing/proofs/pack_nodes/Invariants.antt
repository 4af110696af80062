-- The loop is before node n's turn. Assumes nothing.
use Prim.Native.Nat.{◌-◌}
use Rattle.packing.specs.Packing.{AtNode}
use Rattle.packing.proofs.pack_nodes.Given as goal

abbrev pub invariant-loop-n : goal.invariant-loop-n
invariant-loop-n l =
    let r = l.records in
    AtNode l.shape r.nodes.now r.operations.now r.rows.now l.initial.words l.initial.numbers l.words l.numbers l.st l.n

abbrev pub decreases-loop-n : goal.decreases-loop-n
decreases-loop-n l = l.shape.nodes - l.n
