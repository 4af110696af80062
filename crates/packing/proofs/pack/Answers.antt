-- The chains are cleared, then the nodes are packed. Assumes nothing.
use Rattle.packing.specs.Packing.{packed_cleared}
use Rattle.packing.proofs.pack.Goals as goal

pub returns : goal.returns
returns c = packed_cleared c.clear_chains.ensures c.pack_nodes.ensures
