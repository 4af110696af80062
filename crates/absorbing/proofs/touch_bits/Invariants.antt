-- The qubits of the places left are still to be touched. Assumes nothing.
use Rattle.bits.specs.SetBits.{places}
use Rattle.clifford_states.specs.SetBits.{qubits_in}
use Rattle.absorbing.specs.AxisQubits.{BitsLoop}
use Rattle.absorbing.proofs.touch_bits.Given as goal

abbrev pub invariant-loop-place : goal.invariant-loop-place
invariant-loop-place l =
    BitsLoop l.shape l.initial.st l.j l.acted l.initial.words l.initial.numbers l.words l.numbers l.st
    (qubits_in l.j (places l.place-iterator.0))
