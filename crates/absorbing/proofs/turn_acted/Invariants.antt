-- The images of the qubits of the numbers from the j-th on are still to be changed. Assumes nothing.
use Rattle.absorbing.specs.Qubits.{ActedLoop}
use Prim.Native.Nat.{◌-◌}
use Rattle.absorbing.proofs.turn_acted.Given as goal

abbrev pub invariant-loop-j : goal.invariant-loop-j
invariant-loop-j l = ActedLoop l.shape l.at l.b l.k l.initial.words l.initial.numbers l.words l.numbers l.j

abbrev pub decreases-loop-j : goal.decreases-loop-j
decreases-loop-j l = l.shape.l - l.j
