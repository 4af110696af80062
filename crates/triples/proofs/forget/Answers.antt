-- The loop's invariant: nothing is kept for the places before i. Assumes nothing.
use mathlib.Core.Path.{◌∙◌}
use Rattle.triples.specs.Forgotten.{forgotten_none, forgotten_long, forgotten_more, forgotten_all}
use native.Mathlib.Omega.{arith}
use Rattle.triples.proofs.forget.Goals as goal

pub loop-i-init : goal.loop-i-init
loop-i-init c = (omega arith, c.requires.order, omega arith, forgotten_none _ _ _)

pub write-requires : goal.write-requires
write-requires c = (forgotten_long c.requires c.loop-i.invariant.3, omega arith, let h = c.requires.end_in in omega arith)

pub loop-i-preserved : goal.loop-i-preserved
loop-i-preserved c = (
  omega arith,
  omega arith,
  c.write.ensures.long ∙ c.loop-i.invariant.2,
  forgotten_more c.requires c.loop-i.invariant.3 c.loop-i-test.true (rw c.kept_number-none.ensures at c.write.ensures),
)

pub shape_of-numbers : goal.shape_of-numbers
shape_of-numbers c = c.loop-i.invariant.2

pub returns : goal.returns
returns c = forgotten_all c.loop-i.invariant.3 c.loop-i-test.false
