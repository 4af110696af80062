-- The first that anticommutes, found by its axis. Assumes nothing.
use Rattle.std.proofs.Common.{◌≡◌, true, false, rules, tests}
use Rattle.std.proofs.lemmas.Iterator.{first_from_Range, serves_from_Range}
use Rattle.commuting.specs.Commuting.{entry_in, axes_given}
use Rattle.commuting.specs.Blocking.{blocks, blocking_first}
use Rattle.commuting.proofs.first_blocking.Goals as goal

pub find-requires : goal.find-requires
find-requires c = record {
  can = tt;
  finite = tt;
  callable = serves_from_Range (λ x q k. search (rules, tests))
      (λ x low high. search (rules, entry_in c.requires c.args.axes.stored x high, axes_given c.requires x low high));
}

pub returns : goal.returns
returns c =
    let a = c.args.axes in
    rw c.unwrap_or.ensures
    (blocking_first _
    (first_from_Range _ _ _ _ (λ i. blocks a.sizes a.words.now a.numbers.now c.args.b c.args.end c.args.axis i ≡ true)
    (λ i. blocks a.sizes a.words.now a.numbers.now c.args.b c.args.end c.args.axis i ≡ false) c.find.ensures.ran
    (λ x q k. search (rules, tests)) (λ x q k. search (rules, tests))))
