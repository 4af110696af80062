-- What is left of those before rotation i stands from `to` on. Assumes nothing.
use Rattle.sweeps.specs.Zeros.{kept_start, kept_need, kept_turn, kept_end}
use Rattle.sweeps.proofs.zeros.keep_rotations.Goals as goal

pub loop-i-init : goal.loop-i-init
loop-i-init c = kept_start _ _ _ _ _ c.requires

pub keep_rotation-len-requires : goal.keep_rotation-len-requires
keep_rotation-len-requires c = kept_need _ _ _ _ _ c.requires c.loop-i-test.true c.loop-i.invariant

pub loop-i-preserved : goal.loop-i-preserved
loop-i-preserved c = kept_turn _ _ _ _ _ c.requires c.loop-i-test.true c.loop-i.invariant c.keep_rotation-len.ensures

pub returns : goal.returns
returns c = kept_end _ _ _ _ _ c.loop-i-test.false c.loop-i.invariant
