-- Weight, items, T-depth. Assumes nothing.
use Rattle.decision.specs.Start.{start_weight, start_build, start_depth, start_done}
use Rattle.decision.proofs.start_run.Goals as goal

pub weight_before-weight-requires : goal.weight_before-weight-requires
weight_before-weight-requires c = start_weight c.requires

pub build_items-items-requires : goal.build_items-items-requires
build_items-items-requires c = start_build c.requires

pub depth_of-depth-requires : goal.depth_of-depth-requires
depth_of-depth-requires c = start_depth c.requires c.build_items-items.ensures

pub shape_of-numbers : goal.shape_of-numbers
shape_of-numbers c = (start_done c.requires c.build_items-items.ensures c.args.options c.weight_before-weight.ensures
    c.depth_of-depth.ensures).long

pub returns : goal.returns
returns c =
    start_done c.requires c.build_items-items.ensures c.args.options c.weight_before-weight.ensures
    c.depth_of-depth.ensures
