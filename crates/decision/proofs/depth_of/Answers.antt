-- T-depth, where it is measured. Assumes nothing.
use Rattle.decision.specs.Depth.{depth_asked, depth_on, depth_off}
use Rattle.decision.proofs.depth_of.Goals as goal

pub t_depth-requires : goal.t_depth-requires
t_depth-requires c = depth_asked c.sizes_of-z.ensures c.requires

pub shape_of-numbers-then-on : goal.shape_of-numbers-then-on
shape_of-numbers-then-on c = c.t_depth.ensures.only.long

pub returns-then-on : goal.returns-then-on
returns-then-on c = depth_on c.if-on.true c.sizes_of-z.ensures c.t_depth.ensures

pub returns : goal.returns
returns c = depth_off c.if-on.false
