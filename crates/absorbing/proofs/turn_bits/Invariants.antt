-- The images of the qubits of the places left are still to be changed. Assumes nothing.
use Rattle.bits.specs.SetBits.{places}
use Rattle.clifford_states.specs.SetBits.{qubits_in}
use Rattle.absorbing.specs.Qubits.{NumberLoop}
use Rattle.absorbing.proofs.turn_bits.Given as goal

abbrev pub invariant-loop-place : goal.invariant-loop-place
invariant-loop-place l =
    NumberLoop l.shape l.b l.k l.j l.acted l.initial.words l.initial.numbers l.words l.numbers (qubits_in l.j (places l.place-iterator.0))
