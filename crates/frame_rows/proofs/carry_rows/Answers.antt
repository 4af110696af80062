-- References j and later are still to be carried. Assumes nothing.
use Rattle.frame_rows.specs.FrameRows.{rows_first, rows_turn, rows_left, rows_limit, rows_next, rows_end_lem, rows_refused}
use native.Mathlib.Omega.{arith}
use Rattle.steps.specs.State.{is_limit}
use Rattle.frame_rows.proofs.carry_rows.Goals as goal

pub overflow_mul-end : goal.overflow_mul-end
overflow_mul-end c = omega (arith, c.requires.it.at.granted.sized.qubits)

pub overflow_add-end : goal.overflow_add-end
overflow_add-end c = omega (arith, c.requires.it.at.granted.sized.qubits, c.requires.it.at.granted.sized.operations)

pub loop-j-init : goal.loop-j-init
loop-j-init c = rows_first

pub carry_row-requires : goal.carry_row-requires
carry_row-requires c = rows_turn c.loop-j.invariant c.loop-j-test.true c.requires

pub shape_of-words-in_err-st : goal.shape_of-words-in_err-st
shape_of-words-in_err-st c = (rows_left c.loop-j.invariant c.loop-j-test.true c.carry_row.ensures).words.long

pub shape_of-numbers-in_err-st : goal.shape_of-numbers-in_err-st
shape_of-numbers-in_err-st c = (rows_left c.loop-j.invariant c.loop-j-test.true c.carry_row.ensures).numbers.long

pub returns-in_err-st : goal.returns-in_err-st
returns-in_err-st c = rw (is_limit _ c.from_residual.ensures.0) (
  rows_left c.loop-j.invariant c.loop-j-test.true c.carry_row.ensures,
  λ m n p h. rows_refused _
      (rows_limit c.loop-j.invariant c.loop-j-test.true c.carry_row.ensures
      c.in_err-st.was m n p h),
)

pub overflow_step-j : goal.overflow_step-j
overflow_step-j c =
    let sized = c.requires.it.at.granted.sized in
    omega (arith, c.loop-j-test.true, sized.qubits, sized.operations)

pub loop-j-smaller : goal.loop-j-smaller
loop-j-smaller c = omega (arith, c.loop-j-test.true)

pub loop-j-preserved : goal.loop-j-preserved
loop-j-preserved c = rows_next c.loop-j.invariant c.loop-j-test.true c.carry_row.ensures c.in_ok-st.was c.requires

pub shape_of-words : goal.shape_of-words
shape_of-words c = c.loop-j.invariant.left.words.long

pub shape_of-numbers : goal.shape_of-numbers
shape_of-numbers c = c.loop-j.invariant.left.numbers.long

pub returns : goal.returns
returns c = (c.loop-j.invariant.left, rows_end_lem c.loop-j.invariant c.loop-j-test.false)
