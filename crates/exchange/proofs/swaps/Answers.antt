-- The loop's invariant: the rest of the steps from the state that memory holds now. Assumes nothing.
use mathlib.Core.Path.{◌∙◌}
use native.Mathlib.Omega.{arith}
use Rattle.exchange.specs.Swaps.{swaps_begin, swaps_start, swaps_out, stop_out, next_later, swaps_next, swaps_stop}
use Rattle.exchange.specs.Swaps.{swaps_end}
use Rattle.exchange.proofs.swaps.Goals as goal

pub loop-at-init : goal.loop-at-init
loop-at-init c = (omega arith, swaps_begin c.requires)

pub try_start-requires : goal.try_start-requires
try_start-requires c = swaps_start c.requires c.loop-at.invariant.1 c.loop-at-test.true

pub copy_out-requires : goal.copy_out-requires
copy_out-requires c = stop_out c.requires c.loop-at.invariant.1 c.try_start.ensures c.in_default.is

pub shape_of-numbers-in_default : goal.shape_of-numbers-in_default
shape_of-numbers-in_default c = c.copy_out.ensures.only.long ∙ c.try_start.ensures.only.long ∙ c.loop-at.invariant.0

pub returns-in_default : goal.returns-in_default
returns-in_default c =
    swaps_stop c.requires c.loop-at.invariant.1 c.loop-at-test.true c.try_start.ensures
    c.in_default.is c.copy_out.ensures

pub loop-at-smaller : goal.loop-at-smaller
loop-at-smaller c =
    let a = next_later c.requires c.loop-at.invariant.1 c.try_start.ensures c.in-Some.is in
    let b = (swaps_next c.requires c.loop-at.invariant.1 c.loop-at-test.true c.try_start.ensures
    c.in-Some.is).within in
    omega arith

pub loop-at-preserved : goal.loop-at-preserved
loop-at-preserved c = (
  c.try_start.ensures.only.long ∙ c.loop-at.invariant.0,
  swaps_next c.requires c.loop-at.invariant.1 c.loop-at-test.true c.try_start.ensures
      c.in-Some.is,
)

pub copy_out-requires-2 : goal.copy_out-requires-2
copy_out-requires-2 c = swaps_out c.requires c.loop-at.invariant.1

pub shape_of-numbers : goal.shape_of-numbers
shape_of-numbers c = c.copy_out-2.ensures.only.long ∙ c.loop-at.invariant.0

pub returns : goal.returns
returns c = swaps_end c.requires c.loop-at.invariant.1 c.loop-at-test.false c.copy_out-2.ensures
