-- The sweeps that are left, from the layers that memory holds, are all sweeps; each that moves a rotation leaves fewer to do.
use Rattle.layers.specs.View.{first_layers}
use Rattle.sweeps.specs.Sweeps.{to_do, SweepsTo}
use Rattle.sweeps.proofs.sweeps.Given as goal

-- Assumes nothing.
abbrev pub invariant-loop-s : goal.invariant-loop-s
invariant-loop-s l = SweepsTo l.z l.words l.initial.numbers l.initial.s.laid l.s l.numbers

abbrev pub decreases-loop-s : goal.decreases-loop-s
decreases-loop-s l = to_do l.s.moved (first_layers l.numbers l.z.u l.s.laid.count)
