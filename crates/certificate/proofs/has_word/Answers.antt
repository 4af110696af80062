-- An item that has the word, found by its axis. Assumes nothing.
use Rattle.std.proofs.Common.{rules, tests}
use Rattle.std.proofs.lemmas.Iterator.{serves_from_Range}
use Rattle.certificate.specs.Earlier.{has_entry, has_item, has_pair}
use Rattle.certificate.proofs.has_word.Goals as goal

pub any-requires-clause-callable : goal.any-requires-clause-callable
any-requires-clause-callable c =
    let s = c.args.axes.stored in
    let r = c.requires in
    serves_from_Range (λ x q k. search (rules, tests))
    (λ x low high. search (rules, has_entry s r x low high, has_item s r x low high, has_pair s r x low high))
