-- The rest of the sweep, from the state that memory holds, is the rest from the first layer. Assumes nothing.
use Rattle.sweeps.specs.Sweeping.{SweptTo}
use Rattle.sweeps.proofs.sweep.sweep_layers.Given as goal

abbrev pub invariant-loop-k : goal.invariant-loop-k
invariant-loop-k l = SweptTo l.z l.words l.initial.numbers l.initial.s l.count l.k l.s l.numbers
