-- The sweeps that are left, from the layers that memory holds, are all sweeps; each that moves a rotation leaves fewer to do.
use Rattle.sweeps.specs.Sweeps.{sweeps_start, sweeps_again, sweeps_less, sweeps_last}
use Rattle.sweeps.proofs.sweeps.Goals as goal

pub loop-s-init : goal.loop-s-init
loop-s-init c = sweeps_start _ _ _ _ c.requires

pub loop-s-smaller : goal.loop-s-smaller
loop-s-smaller c = sweeps_less _ _ _ _ c.loop-s-test.true c.loop-s.invariant c.sweep_once-s.ensures

pub loop-s-preserved : goal.loop-s-preserved
loop-s-preserved c = sweeps_again _ _ _ _ c.loop-s-test.true c.loop-s.invariant c.sweep_once-s.ensures

pub returns : goal.returns
returns c = sweeps_last _ _ _ _ c.loop-s-test.false c.loop-s.invariant
