-- T-depth and counters. Assumes nothing.
use Rattle.decision.specs.End.{end_depth, end_summary, end_done}
use Rattle.decision.proofs.end_run.Goals as goal

pub depth_of-depth-requires : goal.depth_of-depth-requires
depth_of-depth-requires c = end_depth c.requires

pub summary-counters-requires : goal.summary-counters-requires
summary-counters-requires c = end_summary c.requires c.depth_of-depth.ensures

pub shape_of-numbers : goal.shape_of-numbers
shape_of-numbers c = c.depth_of-depth.ensures.only.long

pub returns : goal.returns
returns c = end_done c.requires c.depth_of-depth.ensures c.summary-counters.ensures
