-- The letters on the qubits of the places left are still to be multiplied. Assumes nothing.
use Rattle.bits.specs.SetBits.{places}
use Rattle.clifford_states.specs.SetBits.{qubits_in}
use Rattle.carrying.specs.Letters.{LettersLoop}
use Rattle.carrying.proofs.carry_bits.Given as goal

abbrev pub invariant-loop-place : goal.invariant-loop-place
invariant-loop-place l =
    LettersLoop l.shape l.id l.j l.acted l.before l.initial.words l.words l.numbers l.phase (qubits_in l.j (places l.place-iterator.0))
