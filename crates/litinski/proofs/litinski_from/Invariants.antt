-- Round by round, the rounds that are left come to the same. Assumes nothing.
use Prim.Native.Nat.{◌-◌}
use Rattle.litinski.specs.LayerRounds.{RoundsDone}
use Rattle.litinski.proofs.litinski_from.Given as goal

abbrev pub invariant-loop-j : goal.invariant-loop-j
invariant-loop-j l = RoundsDone l.shape l.options l.initial.run l.initial.words l.initial.numbers l.words l.numbers l.run l.j

abbrev pub decreases-loop-j : goal.decreases-loop-j
decreases-loop-j l = l.options.rounds - l.j
