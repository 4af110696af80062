-- The node is not used, or it is placed and its roots are packed. Assumes nothing.
use Rattle.std.proofs.lemmas.Result.{err_from_is_err_and}
use Rattle.packing.specs.NodeTurn.{turn_unused, place_there, turn_refused, roots_there, turn_roots}
use Rattle.packing.proofs.pack_node.Goals as goal

pub returns-then-read-eq0 : goal.returns-then-read-eq0
returns-then-read-eq0 c = turn_unused c.requires c.read.ensures c.if-read-eq0.true

pub place_node-requires : goal.place_node-requires
place_node-requires c = place_there c.requires c.read.ensures c.if-read-eq0.false c.node-x.ensures

pub pack_roots-requires : goal.pack_roots-requires
pack_roots-requires c =
    roots_there c.requires c.read.ensures c.if-read-eq0.false c.node-x.ensures c.place_node.ensures.0
    c.place_node.ensures.1 c.in_ok-placed.was

pub returns : goal.returns
returns c =
    turn_roots c.requires c.read.ensures c.if-read-eq0.false c.node-x.ensures c.place_node.ensures.0
    c.place_node.ensures.1 c.in_ok-placed.was c.pack_roots.result c.pack_roots.ensures.0
    c.pack_roots.ensures.1

pub returns-in_err-placed : goal.returns-in_err-placed
returns-in_err-placed c =
    let refused = err_from_is_err_and c.from_residual.result c.from_residual.ensures.1 in
    rw (refused.1, refused.2) (turn_refused c.requires c.read.ensures c.if-read-eq0.false c.node-x.ensures c.place_node.ensures.0
    c.place_node.ensures.1 _ c.in_err-placed.was)
