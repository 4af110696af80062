-- The loop's invariant: row RELEVANT tells of the first n nodes. Assumes nothing.
use mathlib.Core.Path.{◌≡◌, refl}
use mathlib.Core.Bool.{Bool, true, false}
use mir.Val.{bool_byte}
use Rattle.model.specs.Lists.{when◌then◌else◌}
use Rattle.mentions.specs.Nodes.{node_pre}
use Rattle.mentions.specs.Relevant.{relevant_next}
use native.Mathlib.Omega.{arith}
use borrow.Author.Rules.{rules}
use Rattle.mentions.proofs.relevant_nodes.Goals as goal

-- a bool as a number
byte-bit : (b : Bool) → bool_byte b ≡ (when b then 1 else 0)
unfolding when◌then◌else◌
byte-bit true = refl
byte-bit false = refl

pub relevant-r-requires : goal.relevant-r-requires
relevant-r-requires c = node_pre c.requires _ (omega arith) c.loop-n.invariant.1

pub loop-n-preserved : goal.loop-n-preserved
loop-n-preserved c = (
  omega arith,
  search rules,
  relevant_next c.requires (omega arith) c.loop-n.invariant.2 c.relevant-r.result
      c.relevant-r.ensures
      _ (byte-bit _) c.write.ensures,
)
