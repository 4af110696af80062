-- The rest of the sweep, from the state that memory holds, is the rest from the first layer. Assumes nothing.
use Rattle.sweeps.specs.Sweeping.{swept_start, swept_need, swept_turn, swept_end_lem}
use Rattle.sweeps.proofs.sweep.sweep_layers.Goals as goal

pub loop-k-init : goal.loop-k-init
loop-k-init c = swept_start _ _ _ _ _ c.requires

pub sweep_layer-s-requires : goal.sweep_layer-s-requires
sweep_layer-s-requires c = swept_need _ _ _ _ _ c.requires c.loop-k-test.true c.loop-k.invariant

pub loop-k-preserved : goal.loop-k-preserved
loop-k-preserved c = swept_turn _ _ _ _ _ c.requires c.loop-k-test.true c.loop-k.invariant c.sweep_layer-s.ensures

pub returns : goal.returns
returns c = swept_end_lem _ _ _ _ _ c.loop-k-test.false c.loop-k.invariant
