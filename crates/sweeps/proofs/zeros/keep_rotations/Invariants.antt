-- What is left of those before rotation i stands from `to` on. Assumes nothing.
use Rattle.sweeps.specs.Zeros.{KeptTo}
use Rattle.sweeps.proofs.zeros.keep_rotations.Given as goal

abbrev pub invariant-loop-i : goal.invariant-loop-i
invariant-loop-i l = KeptTo l.u l.initial.numbers l.from l.end l.to l.i l.len l.numbers
