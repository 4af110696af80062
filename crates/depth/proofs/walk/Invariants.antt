-- The loop's invariant: those of the level's list before place p commute. Assumes nothing.
use Rattle.depth.specs.Looking.{WalkedTo}
use Prim.Native.Nat.{◌-◌}
use Rattle.depth.proofs.walk.Given as goal

abbrev pub invariant-loop-p : goal.invariant-loop-p
invariant-loop-p l = WalkedTo l.axes.sizes l.axes.words.now l.axes.numbers.now l.total l.start l.i l.axis l.v l.p

abbrev pub decreases-loop-p : goal.decreases-loop-p
decreases-loop-p l = l.axes.sizes.u - l.p
