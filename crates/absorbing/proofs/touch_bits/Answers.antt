-- The qubits of the places left are still to be touched. Assumes nothing.
use Rattle.std.proofs.Common.{ap, arith}
use Rattle.bits.specs.SetBits.{set_bits_lt}
use Rattle.steps.specs.State.{is_limit}
use Rattle.clifford_states.specs.SetBits.{qubits_in, qubits_all}
use Rattle.absorbing.specs.AxisQubits.{bits_first, bits_turn, bits_left, bits_next, bits_limit, bits_end, number_small}
use Rattle.absorbing.proofs.touch_bits.Goals as goal

pub loop-place-init : goal.loop-place-init
loop-place-init c = bits_first (qubits_all _ (cc))

pub overflow_mul-j : goal.overflow_mul-j
overflow_mul-j c = omega (arith, number_small c.requires.it)

pub overflow_add-j : goal.overflow_add-j
overflow_add-j c = omega (arith, number_small c.requires.it, set_bits_lt 64 0 _ _ _ c.in-Some.ensures.steps)

pub touch-requires : goal.touch-requires
touch-requires c = bits_turn c.loop-place.invariant (ap (qubits_in _) c.in-Some.ensures.steps) c.requires

pub shape_of-words-in_err-st : goal.shape_of-words-in_err-st
shape_of-words-in_err-st c = (bits_left c.loop-place.invariant (ap (qubits_in _) c.in-Some.ensures.steps) c.touch.ensures).words.long

pub shape_of-numbers-in_err-st : goal.shape_of-numbers-in_err-st
shape_of-numbers-in_err-st c = (bits_left c.loop-place.invariant (ap (qubits_in _) c.in-Some.ensures.steps) c.touch.ensures).numbers.long

pub returns-in_err-st : goal.returns-in_err-st
returns-in_err-st c =
    let more = ap (qubits_in _) c.in-Some.ensures.steps in (
      bits_left c.loop-place.invariant more c.touch.ensures,
      rw (is_limit _ c.from_residual.ensures.0) (bits_limit c.loop-place.invariant more c.touch.ensures c.in_err-st.was),
    )

pub loop-place-preserved : goal.loop-place-preserved
loop-place-preserved c =
    bits_next c.loop-place.invariant (ap (qubits_in _) c.in-Some.ensures.steps) c.touch.ensures c.requires _ c.in_ok-st.was

pub shape_of-words : goal.shape_of-words
shape_of-words c = c.loop-place.invariant.left.words.long

pub shape_of-numbers : goal.shape_of-numbers
shape_of-numbers c = c.loop-place.invariant.left.numbers.long

pub returns : goal.returns
returns c = (c.loop-place.invariant.left, bits_end c.loop-place.invariant (ap (qubits_in _) c.in-None.ensures.steps.0))
