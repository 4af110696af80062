-- The loop's invariant: what is left to check from record i on answers for all. Assumes nothing.
use Rattle.std.proofs.lemmas.Result.{err_from_is_err_and}
use lib.ListN.{length-take, length-drop}
use Rattle.checking.specs.Walk.{all_left, none_left, passes, refused, nodes_walk}
use native.Mathlib.Omega.{arith}
use Rattle.checking.proofs.check_nodes.Goals as goal

pub loop-i-init : goal.loop-i-init
loop-i-init c = all_left (nodes_walk _ _)

pub check_node-requires : goal.check_node-requires
check_node-requires c = simp (length-take, length-drop) (omega arith)

pub loop-i-preserved : goal.loop-i-preserved
loop-i-preserved c = passes (nodes_walk _ _) c.loop-i.invariant (omega arith) c.check_node.ensures c.in_ok-check_node.was

pub returns-in_err-check_node : goal.returns-in_err-check_node
returns-in_err-check_node c =
    let p = err_from_is_err_and c.from_residual.result c.from_residual.ensures.1 in
    rw (p.1, p.2) (refused (nodes_walk _ _) c.loop-i.invariant (omega arith) c.check_node.ensures c.in_err-check_node.was)

pub returns : goal.returns
returns c = none_left (nodes_walk _ _) c.loop-i.invariant (omega arith)
