-- The numbers from the j-th on are still to be gone through. Assumes nothing.
use Rattle.carrying.specs.Letters.{WordLoop}
use Prim.Native.Nat.{◌-◌}
use Rattle.carrying.proofs.carry_letters.Given as goal

abbrev pub invariant-loop-j : goal.invariant-loop-j
invariant-loop-j l = WordLoop l.shape l.id l.initial.words l.words l.numbers l.phase l.j

abbrev pub decreases-loop-j : goal.decreases-loop-j
decreases-loop-j l = l.shape.l - l.j
