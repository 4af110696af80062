-- The loop's invariant: what is left to check from operation i on, with the outcomes before it, answers for all, and the table has these
use Rattle.std.proofs.lemmas.Result.{err_from_is_err_and}
use lib.ListN.{length-take, length-drop}
use Rattle.checking.specs.Walk.{all_left, none_left, passes, refused}
use Rattle.checking.specs.Outcomes.{seen_by, none_seen, seen_next, operations_walk}
use native.Mathlib.Omega.{arith}
use Rattle.checking.proofs.check_operations.Goals as goal

pub loop-i-init : goal.loop-i-init
loop-i-init c = (all_left (operations_walk _ _), none_seen _)

pub check_operation-requires : goal.check_operation-requires
check_operation-requires c = simp (length-take, length-drop) (omega arith)

pub loop-i-preserved : goal.loop-i-preserved
loop-i-preserved c = (
  passes (operations_walk _ _) c.loop-i.invariant.0 (omega arith)
      (c.check_operation.ensures _ c.loop-i.invariant.1).answer c.in_ok-check_operation.was,
  seen_next _ _
      ((c.check_operation.ensures _ c.loop-i.invariant.1).entered c.in_ok-check_operation.was),
)

pub returns-in_err-check_operation : goal.returns-in_err-check_operation
unfolding seen_by
returns-in_err-check_operation c =
    let p = err_from_is_err_and c.from_residual.result c.from_residual.ensures.1 in
    rw (p.1, p.2) (refused (operations_walk _ _) c.loop-i.invariant.0 (omega arith) (c.check_operation.ensures _ c.loop-i.invariant.1).answer c.in_err-check_operation.was)

pub returns : goal.returns
unfolding seen_by
returns c = none_left (operations_walk _ _) c.loop-i.invariant.0 (omega arith)
