-- An item that has the word with one of the group. Assumes nothing.
use Rattle.std.proofs.Common.{rules, tests}
use Rattle.std.proofs.lemmas.Iterator.{serves_from_Range}
use Rattle.certificate.specs.Ranges.{any_found}
use Rattle.certificate.specs.Earlier.{RowHas, rows_row}
use Rattle.certificate.proofs.rows_have.Goals as goal

pub any-requires-clause-callable : goal.any-requires-clause-callable
any-requires-clause-callable c =
    serves_from_Range (λ x q k. search (rules, tests)) (λ x low high. search (rules, rows_row c.requires x low high))

pub returns : goal.returns
returns c = λ e.
    let a = c.args in
    let found = any_found _ _ _ (λ p. RowHas a.axes.sizes a.axes.words.now a.axes.numbers.now p a.b a.pa a.qa) c.any.ensures.ran
    (λ x q k. search (rules, tests)) (λ x q k. search (rules, tests)) e in
    record { item = found.0; low = found.1; high = found.2; has = found.3 }
