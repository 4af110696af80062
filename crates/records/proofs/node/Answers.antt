-- The node that the numbers say. Assumes nothing.
use Rattle.std.proofs.Common.{ap, ◌∙◌}
use Rattle.records.specs.Numbers.{node_numbered, node_numbered_lem}
use Rattle.records.proofs.node.Goals as goal

pub returns : goal.returns
returns c = c.into.ensures ∙ ap node_numbered c.node_at.ensures ∙ node_numbered_lem _ _
