-- The numbers from the j-th on are still to be gone through. Assumes nothing.
use Rattle.absorbing.specs.AxisQubits.{axis_small, numbers_word, numbers_first, numbers_turn, numbers_left, numbers_next}
use Rattle.absorbing.specs.AxisQubits.{numbers_limit, numbers_end}
use native.Mathlib.Omega.{arith}
use Rattle.steps.specs.State.{is_limit}
use Rattle.absorbing.proofs.touch_all.Goals as goal

pub axis_at-at-requires : goal.axis_at-at-requires
axis_at-at-requires c = axis_small c.requires.it

pub loop-j-init : goal.loop-j-init
loop-j-init c = numbers_first

pub acted_at-acted-requires : goal.acted_at-acted-requires
acted_at-acted-requires c = (numbers_word c.loop-j.invariant c.requires c.axis_at-at.ensures, c.loop-j-test.true)

pub touch_bits-requires : goal.touch_bits-requires
touch_bits-requires c = numbers_turn c.loop-j.invariant c.loop-j-test.true c.axis_at-at.ensures c.acted_at-acted.ensures c.requires

pub shape_of-words-in_err-st : goal.shape_of-words-in_err-st
shape_of-words-in_err-st c = (numbers_left c.loop-j.invariant c.loop-j-test.true c.axis_at-at.ensures c.acted_at-acted.ensures
    c.touch_bits.ensures).words.long

pub shape_of-numbers-in_err-st : goal.shape_of-numbers-in_err-st
shape_of-numbers-in_err-st c = (numbers_left c.loop-j.invariant c.loop-j-test.true c.axis_at-at.ensures c.acted_at-acted.ensures
    c.touch_bits.ensures).numbers.long

pub returns-in_err-st : goal.returns-in_err-st
returns-in_err-st c = (
  numbers_left c.loop-j.invariant c.loop-j-test.true c.axis_at-at.ensures c.acted_at-acted.ensures
      c.touch_bits.ensures,
  rw (is_limit _ c.from_residual.ensures.0) (numbers_limit c.loop-j.invariant c.loop-j-test.true c.axis_at-at.ensures
      c.acted_at-acted.ensures c.touch_bits.ensures c.in_err-st.was),
)

pub overflow_step-j : goal.overflow_step-j
overflow_step-j c = omega (arith, c.loop-j-test.true, c.requires.it.at.granted.sized.few)

pub loop-j-smaller : goal.loop-j-smaller
loop-j-smaller c = omega (arith, c.loop-j-test.true)

pub loop-j-preserved : goal.loop-j-preserved
loop-j-preserved c =
    numbers_next c.loop-j.invariant c.loop-j-test.true c.axis_at-at.ensures c.acted_at-acted.ensures
    c.touch_bits.ensures c.requires _ c.in_ok-st.was

pub shape_of-words : goal.shape_of-words
shape_of-words c = c.loop-j.invariant.left.words.long

pub shape_of-numbers : goal.shape_of-numbers
shape_of-numbers c = c.loop-j.invariant.left.numbers.long

pub returns : goal.returns
returns c = (c.loop-j.invariant.left, numbers_end c.loop-j.invariant c.loop-j-test.false)
