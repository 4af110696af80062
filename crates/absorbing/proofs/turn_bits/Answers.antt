-- The images of the qubits of the places left are still to be changed. Assumes nothing.
use Rattle.std.proofs.Common.{ap, arith}
use Rattle.bits.specs.SetBits.{set_bits_lt}
use Rattle.clifford_states.specs.SetBits.{qubits_in, qubits_all}
use Rattle.absorbing.specs.Qubits.{number_first, number_turn, number_next, number_end}
use Rattle.absorbing.proofs.turn_bits.Goals as goal

pub loop-place-init : goal.loop-place-init
loop-place-init c = number_first (qubits_all _ (cc))

pub overflow_mul-j : goal.overflow_mul-j
overflow_mul-j c = omega (arith, c.requires.it.number)

pub overflow_add-j : goal.overflow_add-j
overflow_add-j c = omega (arith, c.requires.it.number, set_bits_lt 64 0 _ _ _ c.in-Some.ensures.steps)

pub turn_qubit-requires : goal.turn_qubit-requires
turn_qubit-requires c = number_turn c.loop-place.invariant (ap (qubits_in _) c.in-Some.ensures.steps) c.requires

pub loop-place-preserved : goal.loop-place-preserved
loop-place-preserved c = number_next c.loop-place.invariant (ap (qubits_in _) c.in-Some.ensures.steps) c.turn_qubit.ensures

pub shape_of-words : goal.shape_of-words
shape_of-words c =
    (number_end c.loop-place.invariant (ap (qubits_in _) c.in-None.ensures.steps.0) c.requires.count c.requires.it).words.long

pub shape_of-numbers : goal.shape_of-numbers
shape_of-numbers c =
    (number_end c.loop-place.invariant (ap (qubits_in _) c.in-None.ensures.steps.0) c.requires.count c.requires.it).numbers.long

pub returns : goal.returns
returns c = number_end c.loop-place.invariant (ap (qubits_in _) c.in-None.ensures.steps.0)
