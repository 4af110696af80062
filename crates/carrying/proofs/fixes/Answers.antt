-- Each number has no bit where the mask has one. Assumes nothing.
use Rattle.std.proofs.Common.{rules}
use Rattle.std.proofs.lemmas.Iterator.{cases_from_all, YieldsList-from_range}
use borrow.Author.Tests.{tests}
use mathlib.Core.Path.{refl}
use native.Mathlib.Omega.{arith}
use Rattle.carrying.specs.Fixed.{Unmarked, none_found}
use Rattle.carrying.proofs.fixes.Goals as goal

pub returns : goal.returns
returns c = none_found _ _ (cases_from_all _ _ c.all.result (Unmarked c.args.l c.args.words.now c.args.at c.args.mask) (λ j. Unit {0})
    c.all.ensures.ran (YieldsList-from_range 0 c.args.l c.args.l refl (omega arith))
    (λ x q k. search (rules, tests)) (λ x q k. tt))
