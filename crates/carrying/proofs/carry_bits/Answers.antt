-- The letters on the qubits of the places left are still to be multiplied. Assumes nothing.
use Rattle.std.proofs.Common.{ap, arith}
use Rattle.bits.specs.SetBits.{set_bits_lt}
use Rattle.clifford_states.specs.SetBits.{qubits_in, qubits_all}
use Rattle.carrying.specs.Letters.{letters_first, letters_turn, letters_next, letters_end, letters_number}
use Rattle.carrying.proofs.carry_bits.Goals as goal

pub loop-place-init : goal.loop-place-init
loop-place-init c = letters_first (qubits_all _ (cc)) c.requires

pub overflow_mul-j : goal.overflow_mul-j
overflow_mul-j c = omega (arith, letters_number c.requires.it)

pub overflow_add-j : goal.overflow_add-j
overflow_add-j c = omega (arith, letters_number c.requires.it, set_bits_lt 64 0 _ _ _ c.in-Some.ensures.steps)

pub carry_letter-phase-requires : goal.carry_letter-phase-requires
carry_letter-phase-requires c = letters_turn c.loop-place.invariant (ap (qubits_in _) c.in-Some.ensures.steps) c.requires

pub loop-place-preserved : goal.loop-place-preserved
loop-place-preserved c =
    letters_next c.loop-place.invariant (ap (qubits_in _) c.in-Some.ensures.steps) c.requires c.carry_letter-phase.ensures

pub shape_of-words : goal.shape_of-words
shape_of-words c = c.loop-place.invariant.words.long

pub returns : goal.returns
returns c = letters_end c.loop-place.invariant (ap (qubits_in _) c.in-None.ensures.steps.0)
