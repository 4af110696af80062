-- The first layer, the rest, and the last layer is closed. Assumes nothing.
use Rattle.sweeps.specs.Sweeping.{sweep_first_need, sweep_rest_need, sweep_close, sweep_end}
use Rattle.sweeps.proofs.sweep.sweep.Goals as goal

pub first_layer-first-requires : goal.first_layer-first-requires
first_layer-first-requires c = sweep_first_need _ _ _ _ _ c.requires

pub sweep_layers-st-requires : goal.sweep_layers-st-requires
sweep_layers-st-requires c = sweep_rest_need _ _ _ _ _ c.requires c.first_layer-first.ensures

pub close-laid-requires : goal.close-laid-requires
close-laid-requires c = sweep_close _ _ _ _ _ c.requires c.first_layer-first.ensures c.sweep_layers-st.ensures

pub returns : goal.returns
returns c = sweep_end _ _ _ _ _ c.requires c.first_layer-first.ensures c.sweep_layers-st.ensures c.close-laid.ensures
