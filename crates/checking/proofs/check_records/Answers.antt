-- The program, then the named place. Assumes nothing.
use Rattle.std.proofs.lemmas.Result.{err_from_is_err_and}
use Rattle.layout.specs.Bounds.{program_long}
use Rattle.checking.specs.Refusals.{records_refused, place_decides}
use Rattle.checking.proofs.check_records.Goals as goal

pub check_place-requires : goal.check_place-requires
check_place-requires c = (program_long _ c.requires).1

pub returns-in_err-check_program : goal.returns-in_err-check_program
returns-in_err-check_program c =
    let p = err_from_is_err_and c.from_residual.result c.from_residual.ensures.1 in
    rw (p.1, p.2) (records_refused _ _ c.check_program.ensures c.in_err-check_program.was)

pub returns : goal.returns
returns c = place_decides _ _ c.check_program.ensures c.in_ok-check_program.was c.check_place.ensures
