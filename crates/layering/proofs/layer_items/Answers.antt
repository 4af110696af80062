-- They join layers, the last one is closed, and sweeps follow. Assumes nothing.
use Rattle.layering.specs.Segment.{items_close, items_sweeps, items_layered}
use Rattle.layering.proofs.layer_items.Goals as goal

pub close-st-requires : goal.close-st-requires
close-st-requires c = items_close _ _ _ _ _ c.requires c.join_items-open.ensures

pub sweeps-requires : goal.sweeps-requires
sweeps-requires c = items_sweeps _ _ _ _ _ c.requires c.join_items-open.ensures c.close-st.ensures

pub returns : goal.returns
returns c = items_layered _ _ _ _ _ c.requires c.join_items-open.ensures c.close-st.ensures c.sweeps.ensures
