-- Whatever is left, its depth from the state that memory holds is the whole T-depth. Assumes nothing.
use Rattle.depth.specs.ItemsLoop.{depth_start, depth_need, depth_turn, depth_end}
use Rattle.depth.proofs.over_items.Goals as goal

pub loop-i-init : goal.loop-i-init
loop-i-init c = depth_start _ _ _ _

pub turn-st-requires : goal.turn-st-requires
turn-st-requires c = depth_need _ _ _ _ c.requires c.loop-i-test.true c.loop-i.invariant

pub loop-i-preserved : goal.loop-i-preserved
loop-i-preserved c = depth_turn _ _ _ _ c.requires c.loop-i-test.true c.loop-i.invariant c.turn-st.ensures

pub returns : goal.returns
returns c = depth_end _ _ _ _ c.loop-i-test.false c.loop-i.invariant
