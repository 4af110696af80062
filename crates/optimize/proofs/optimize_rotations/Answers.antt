-- The whole call. Assumes nothing.
use Rattle.std.proofs.lemmas.Result.{err_from_is_err_and}
use Rattle.optimize.specs.Call.{call_refused, call_sizes, call_run, call_done}
use Rattle.optimize.proofs.optimize_rotations.Goals as goal

pub returns-in_err-checking : goal.returns-in_err-checking
returns-in_err-checking c =
    let p = err_from_is_err_and c.from_residual.result c.from_residual.ensures.1 in
    rw (p.1, p.2) (call_refused _ _ _ _ _ _ _ _ _ c.checking.ensures c.in_err-checking.was)

pub shape_of-shape-requires : goal.shape_of-shape-requires
shape_of-shape-requires c = call_sizes _ _ _ _ _ _ _ _ _ c.checking.ensures c.in_ok-checking.was

pub run-requires : goal.run-requires
run-requires c = call_run _ _ _ _ _ _ _ _ _ c.checking.ensures c.in_ok-checking.was c.shape_of-shape.ensures

pub returns : goal.returns
returns c = call_done _ _ _ _ _ _ _ _ _ c.checking.ensures c.in_ok-checking.was c.shape_of-shape.ensures _ c.run.ensures
