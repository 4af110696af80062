-- The numbers from the j-th on are still to be gone through. Assumes nothing.
use Rattle.absorbing.specs.AxisQubits.{NumbersLoop}
use Prim.Native.Nat.{◌-◌}
use Rattle.absorbing.proofs.touch_all.Given as goal

abbrev pub invariant-loop-j : goal.invariant-loop-j
invariant-loop-j l = NumbersLoop l.shape l.initial.st l.id l.initial.words l.initial.numbers l.words l.numbers l.st l.j

abbrev pub decreases-loop-j : goal.decreases-loop-j
decreases-loop-j l = l.shape.l - l.j
