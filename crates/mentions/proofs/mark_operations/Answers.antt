-- The loop's invariant: the nodes of the first i operations are marked. Assumes nothing.
use Rattle.mentions.specs.Operations.{marked_none, marked_next}
use native.Mathlib.Omega.{arith}
use borrow.Author.Rules.{rules}
use Rattle.mentions.proofs.mark_operations.Goals as goal

pub loop-i-init : goal.loop-i-init
loop-i-init c = (omega arith, omega arith, marked_none _ _ _)

pub loop-i-preserved : goal.loop-i-preserved
loop-i-preserved c = (
  omega arith,
  search rules,
  marked_next c.requires (omega arith) c.loop-i.invariant.2 c.operation-node.result
      c.operation-node.ensures
      c.write.ensures,
)
