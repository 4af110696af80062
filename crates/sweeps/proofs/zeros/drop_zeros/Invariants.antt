-- What is left of the layers before layer k. Assumes nothing.
use Rattle.sweeps.specs.Zeros.{ZerosTo}
use Rattle.sweeps.proofs.zeros.drop_zeros.Given as goal

abbrev pub invariant-loop-k : goal.invariant-loop-k
invariant-loop-k l = ZerosTo l.u l.initial.numbers l.count l.merged l.k l.st l.numbers
