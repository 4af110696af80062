-- Those from i on are above j. Assumes nothing.
use Rattle.waiting.specs.Inserting.{above_first, above_ends, above_next, above_all}
use native.Mathlib.Omega.{arith}
use Rattle.waiting.proofs.up_to.Goals as goal

pub loop-i-init : goal.loop-i-init
loop-i-init c = above_first _ _ _ _

pub read-requires : goal.read-requires
read-requires c = (c.requires.0, omega arith, omega (arith, c.loop-i-test.true, c.loop-i.invariant.few, c.requires.1))

pub returns-then-read-j : goal.returns-then-read-j
returns-then-read-j c = above_ends c.loop-i.invariant c.read.ensures c.if-read-j.true c.loop-i-test.true

pub loop-i-preserved : goal.loop-i-preserved
loop-i-preserved c = above_next c.loop-i.invariant c.read.ensures c.if-read-j.false c.loop-i-test.true

pub returns : goal.returns
returns c = above_all c.loop-i.invariant c.loop-i-test.false
