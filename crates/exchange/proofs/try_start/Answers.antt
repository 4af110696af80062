-- The runs in turn, and what the search finds. Assumes nothing.
use mathlib.Core.Path.{◌∙◌}
use native.Mathlib.Omega.{arith}
use Rattle.exchange.specs.Steps.{run_pre, stop_first, stop_second, runs_pre, goes_none, replace_pre, goes_swap}
use Rattle.exchange.proofs.try_start.Goals as goal

pub run_end-second-requires : goal.run_end-second-requires
run_end-second-requires c = run_pre c.requires _ (omega arith) c.requires.start_end

pub returns-then-second-end : goal.returns-then-second-end
returns-then-second-end c = stop_first c.requires c.run_end-second.ensures c.if-second-end.true

pub run_end-third-requires : goal.run_end-third-requires
run_end-third-requires c =
    run_pre c.requires _ (let a = c.run_end-second.ensures.after in omega arith)
    (let a = c.run_end-second.ensures.within in omega (arith, c.if-second-end.false))

pub returns-then-third-end : goal.returns-then-third-end
returns-then-third-end c = stop_second c.requires c.run_end-second.ensures c.run_end-third.ensures c.if-third-end.true

pub run_end-requires : goal.run_end-requires
run_end-requires c =
    run_pre c.requires _ (let a = c.run_end-second.ensures.after in let b = c.run_end-third.ensures.after in omega arith)
    (let a = c.run_end-third.ensures.within in omega (arith, c.if-third-end.false))

pub try_triple-requires : goal.try_triple-requires
try_triple-requires c =
    runs_pre c.requires c.run_end-second.ensures c.run_end-third.ensures c.run_end.ensures
    c.if-second-end.false c.if-third-end.false

pub replace-requires : goal.replace-requires
replace-requires c =
    replace_pre c.requires c.run_end-second.ensures c.run_end-third.ensures c.run_end.ensures
    c.if-second-end.false c.if-third-end.false c.try_triple.ensures c.in-Some.is

pub shape_of-numbers-in_default : goal.shape_of-numbers-in_default
shape_of-numbers-in_default c = c.try_triple.ensures.only.long

pub returns-in_default : goal.returns-in_default
returns-in_default c =
    goes_none c.requires c.run_end-second.ensures c.run_end-third.ensures c.run_end.ensures
    c.if-second-end.false c.if-third-end.false c.try_triple.ensures c.in_default.is

pub shape_of-numbers : goal.shape_of-numbers
shape_of-numbers c = c.replace.ensures.only.long ∙ c.try_triple.ensures.only.long

pub returns : goal.returns
returns c =
    goes_swap c.requires c.run_end-second.ensures c.run_end-third.ensures c.run_end.ensures
    c.if-second-end.false c.if-third-end.false c.try_triple.ensures c.in-Some.is c.replace.ensures
