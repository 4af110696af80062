-- The loop's invariant: what the qubits acted on and the marks below n reach is unchanged. Assumes nothing.
use Rattle.mentions.specs.Nodes.{node_pre}
use Rattle.mentions.specs.Down.{down_step, down_end}
use native.Mathlib.Omega.{arith}
use borrow.Author.Rules.{rules}
use Rattle.mentions.proofs.mark_down.Goals as goal

pub mark_from-requires : goal.mark_from-requires
mark_from-requires c = node_pre c.requires _ (omega arith) c.loop-n.invariant.1

pub loop-n-preserved : goal.loop-n-preserved
loop-n-preserved c = (
  omega arith,
  search rules,
  down_step c.requires (omega arith) (omega arith) c.loop-n.invariant.2
      c.mark_from.ensures,
)

pub returns : goal.returns
returns c = down_end (omega arith) c.loop-n.invariant.2
