-- The first item that does not join. Assumes nothing.
use Rattle.std.proofs.Common.{◌≡◌, true, false, suc, arith, rules, tests}
use Rattle.std.proofs.lemmas.Iterator.{first_from_Range, serves_from_Range}
use Rattle.trial.specs.Laying.{plain_part}
use Rattle.triples.specs.Runs.{item_joins, run_found}
use Rattle.triples.proofs.run_end.Goals as goal

pub find-requires-clause-callable : goal.find-requires-clause-callable
find-requires-clause-callable c =
    serves_from_Range (λ x q k. search (rules, tests))
    (λ x low high. search (rules, plain_part c.args.start (suc x) (omega arith) high c.requires.0))

pub returns : goal.returns
returns c =
    let a = c.args in
    rw c.unwrap_or.ensures
    (run_found _ _ _ _ _ _ c.requires.1 c.requires.2 _
    (first_from_Range _ _ _ _ (λ e. item_joins a.axes.sizes a.window a.axes.words.now a.axes.numbers.now a.start a.end e ≡ false)
    (λ e. item_joins a.axes.sizes a.window a.axes.words.now a.axes.numbers.now a.start a.end e ≡ true) c.find.ensures.ran
    (λ x q k. search (rules, tests)) (λ x q k. search (rules, tests))))
