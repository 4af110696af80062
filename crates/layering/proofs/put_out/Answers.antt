-- The first i are put out. Assumes nothing.
use Rattle.layering.specs.Segment.{out_start, out_need, out_turn, out_end}
use Rattle.layering.proofs.put_out.Goals as goal

pub loop-i-init : goal.loop-i-init
loop-i-init c = out_start _ _ _ _

pub put_one-requires : goal.put_one-requires
put_one-requires c = out_need _ _ _ _ c.requires c.loop-i-test.true c.loop-i.invariant

pub loop-i-preserved : goal.loop-i-preserved
loop-i-preserved c = out_turn _ _ _ _ c.requires c.loop-i-test.true c.loop-i.invariant c.put_one.ensures

pub returns : goal.returns
returns c = out_end _ _ _ _ c.loop-i-test.false c.loop-i.invariant
