-- The outputs from i on let the axis pass. Assumes nothing.
use Rattle.merging.specs.Reach.{reach_far, passed_first, blocks_pre, reach_blocked, passed_next, reach_all}
use native.Mathlib.Omega.{arith}
use Rattle.merging.proofs.can_reach.Goals as goal

pub overflow_sub-out : goal.overflow_sub-out
overflow_sub-out c = omega (arith, c.requires.before)

pub overflow_sub-out-2 : goal.overflow_sub-out-2
overflow_sub-out-2 c = omega (arith, c.requires.before)

pub returns-then-lookback-out : goal.returns-then-lookback-out
returns-then-lookback-out c = reach_far _ c.requires _ c.if-lookback-out.true

pub loop-i-init : goal.loop-i-init
loop-i-init c = passed_first _ c.requires

pub overflow_add-i-start : goal.overflow_add-i-start
overflow_add-i-start c = omega (arith, c.requires.before, c.ranges.out)

pub blocks-requires : goal.blocks-requires
blocks-requires c = blocks_pre _ c.requires c.loop-i.invariant c.loop-i-test.true

pub returns-then-blocks : goal.returns-then-blocks
returns-then-blocks c = reach_blocked _ c.requires c.loop-i.invariant c.loop-i-test.true _ c.blocks-in-loop-i.ensures c.if-blocks.true

pub loop-i-preserved : goal.loop-i-preserved
loop-i-preserved c = passed_next _ c.requires c.loop-i.invariant c.loop-i-test.true c.blocks-in-loop-i.ensures c.if-blocks.false

pub returns : goal.returns
returns c = reach_all _ c.requires _ c.if-lookback-out.false c.loop-i.invariant c.loop-i-test.false
