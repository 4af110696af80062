-- By cases. Assumes nothing.
use mathlib.Core.Path.{sym, ap}
use mathlib.Core.Bool.{Bool}
use borrow.Author.Rules.{rules}
use Rattle.model.specs.Lists.{when◌then◌else◌}
use Rattle.werdutxa.specs.Calls.{lazy_of}
use Rattle.werdutxa.proofs.lazy.Goals as goal

pub returns-then-named : goal.returns-then-named
unfolding lazy_of
returns-then-named c = ap (λ (b : Bool). lazy_of c.args.lazy_cliffords b c.args.place) (sym c.if-named.true)

pub returns-then-lazy_cliffords : goal.returns-then-lazy_cliffords
unfolding lazy_of when◌then◌else◌
returns-then-lazy_cliffords c = search rules

pub returns : goal.returns
unfolding lazy_of when◌then◌else◌
returns c = search rules
