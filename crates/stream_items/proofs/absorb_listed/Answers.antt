-- Places i and later have not had their turn. Assumes nothing.
use Rattle.stream_items.specs.WaitingList.{scan_first, scan_turn, scan_left, scan_limit, scan_next, scan_end}
use native.Mathlib.Omega.{arith}
use Rattle.steps.specs.State.{is_limit}
use Rattle.stream_items.proofs.absorb_listed.Goals as goal

pub loop-i-init : goal.loop-i-init
loop-i-init c = scan_first c.requires

pub waiting_turn-requires : goal.waiting_turn-requires
waiting_turn-requires c = scan_turn c.loop-i.invariant c.loop-i-test.true c.requires

pub shape_of-words-in_err-st : goal.shape_of-words-in_err-st
shape_of-words-in_err-st c = (scan_left c.loop-i.invariant c.loop-i-test.true c.waiting_turn.ensures).words.long

pub shape_of-numbers-in_err-st : goal.shape_of-numbers-in_err-st
shape_of-numbers-in_err-st c = (scan_left c.loop-i.invariant c.loop-i-test.true c.waiting_turn.ensures).numbers.long

pub returns-in_err-st : goal.returns-in_err-st
returns-in_err-st c = rw (is_limit _ c.from_residual.ensures.0) (
  scan_left c.loop-i.invariant c.loop-i-test.true c.waiting_turn.ensures,
  scan_limit c.loop-i.invariant
      c.loop-i-test.true c.waiting_turn.ensures c.in_err-st.was,
)

pub overflow_step-i : goal.overflow_step-i
overflow_step-i c = omega (arith, c.loop-i-test.true, c.ranges)

pub loop-i-smaller : goal.loop-i-smaller
loop-i-smaller c = omega (arith, c.loop-i-test.true)

pub loop-i-preserved : goal.loop-i-preserved
loop-i-preserved c = scan_next c.loop-i.invariant c.loop-i-test.true c.waiting_turn.ensures c.in_ok-st.was c.requires

pub shape_of-words : goal.shape_of-words
shape_of-words c = c.loop-i.invariant.left.words.long

pub shape_of-numbers : goal.shape_of-numbers
shape_of-numbers c = c.loop-i.invariant.left.numbers.long

pub returns : goal.returns
returns c = (c.loop-i.invariant.left, scan_end c.loop-i.invariant c.loop-i-test.false)
