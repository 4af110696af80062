-- The bits' levels are cleared before. Assumes nothing.
use Rattle.depth.specs.ItemsLoop.{cleared_pre, cleared_depth}
use Rattle.depth.proofs.t_depth.Goals as goal

pub over_items-requires : goal.over_items-requires
over_items-requires c = cleared_pre _ _ _ _ c.requires c.min.ensures c.clear_row.ensures

pub returns : goal.returns
returns c = cleared_depth _ _ _ _ c.requires c.min.ensures c.clear_row.ensures c.over_items.ensures
