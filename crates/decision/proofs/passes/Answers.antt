-- The start, the passes, the end. Assumes nothing.
use Rattle.std.proofs.lemmas.Result.{err_from_is_err_and}
use Rattle.decision.specs.Decision.{first_run, passes_limit, passes_end, passes_done}
use Rattle.decision.proofs.passes.Goals as goal

pub start_run-s-requires : goal.start_run-s-requires
start_run-s-requires c = c.requires.0

pub passes-requires : goal.passes-requires
passes-requires c = (
  record { program = _; work = _; at = first_run c.requires.0 c.start_run-s.ensures c.requires.2 c.first_state-first.ensures },
  c.requires.1,
)

pub shape_of-words-in_err-run : goal.shape_of-words-in_err-run
shape_of-words-in_err-run c = (passes_limit c.args.options c.requires.0 c.start_run-s.ensures c.requires.2 c.first_state-first.ensures
    c.passes.ensures c.in_err-run.was).long.words

pub shape_of-numbers-in_err-run : goal.shape_of-numbers-in_err-run
shape_of-numbers-in_err-run c = (passes_limit c.args.options c.requires.0 c.start_run-s.ensures c.requires.2 c.first_state-first.ensures
    c.passes.ensures c.in_err-run.was).long.numbers

pub returns-in_err-run : goal.returns-in_err-run
returns-in_err-run c =
    let p = err_from_is_err_and c.from_residual.result c.from_residual.ensures.1 in
    rw (p.1, p.2)
    (passes_limit c.args.options c.requires.0 c.start_run-s.ensures c.requires.2 c.first_state-first.ensures c.passes.ensures c.in_err-run.was)

pub end_run-requires : goal.end_run-requires
end_run-requires c =
    passes_end c.args.options c.requires.0 c.start_run-s.ensures c.requires.2 c.first_state-first.ensures
    c.passes.ensures _ c.in_ok-run.was

pub shape_of-words : goal.shape_of-words
shape_of-words c = (passes_done c.args.options c.requires.0 c.start_run-s.ensures c.requires.2 c.first_state-first.ensures
    c.passes.ensures c.end_run.ensures).long.words

pub shape_of-numbers : goal.shape_of-numbers
shape_of-numbers c = (passes_done c.args.options c.requires.0 c.start_run-s.ensures c.requires.2 c.first_state-first.ensures
    c.passes.ensures c.end_run.ensures).long.numbers

pub returns : goal.returns
returns c =
    passes_done c.args.options c.requires.0 c.start_run-s.ensures c.requires.2 c.first_state-first.ensures
    c.passes.ensures c.end_run.ensures
