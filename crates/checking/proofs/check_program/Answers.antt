-- Nodes, then operations, then frame rows; the first refusal stands. Assumes nothing.
use Rattle.std.proofs.lemmas.Result.{err_from_is_err_and}
use Rattle.layout.specs.Bounds.{program_long}
use Rattle.checking.specs.Refusals.{node_refused, operation_refused, rows_decide}
use native.Mathlib.Omega.{arith}
use Rattle.checking.proofs.check_program.Goals as goal

pub check_nodes-requires : goal.check_nodes-requires
check_nodes-requires c = (program_long _ c.requires).0

pub check_operations-requires : goal.check_operations-requires
check_operations-requires c = (program_long _ c.requires).1

pub overflow_mul-c : goal.overflow_mul-c
overflow_mul-c c = let l = (program_long _ c.requires).2 in omega arith

pub check_rows-requires : goal.check_rows-requires
check_rows-requires c = let l = (program_long _ c.requires).2 in omega arith

pub returns-in_err-check_nodes : goal.returns-in_err-check_nodes
returns-in_err-check_nodes c =
    let p = err_from_is_err_and c.from_residual.result c.from_residual.ensures.1 in
    rw (p.1, p.2) (node_refused _ c.check_nodes.ensures c.in_err-check_nodes.was)

pub returns-in_err-check_operations : goal.returns-in_err-check_operations
returns-in_err-check_operations c =
    let p = err_from_is_err_and c.from_residual-in_err-check_operations.result c.from_residual-in_err-check_operations.ensures.1 in
    rw (p.1, p.2) (operation_refused _ c.check_nodes.ensures c.in_ok-check_nodes.was c.check_operations.ensures c.in_err-check_operations.was)

pub returns : goal.returns
returns c = rows_decide _ c.check_nodes.ensures c.in_ok-check_nodes.was c.check_operations.ensures c.in_ok-check_operations.was c.check_rows.ensures
