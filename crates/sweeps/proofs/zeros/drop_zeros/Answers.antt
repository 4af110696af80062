-- What is left of the layers before layer k. Assumes nothing.
use Rattle.sweeps.specs.Zeros.{zeros_start, zeros_need, zeros_turn, zeros_end}
use Rattle.sweeps.proofs.zeros.drop_zeros.Goals as goal

pub loop-k-init : goal.loop-k-init
loop-k-init c =
    let none = c.default.ensures in
    rw (none.0, none.1.0, none.1.1.0) (zeros_start _ _ _ _)

pub keep_layer-st-requires : goal.keep_layer-st-requires
keep_layer-st-requires c = zeros_need _ _ _ _ c.requires c.loop-k-test.true c.loop-k.invariant

pub loop-k-preserved : goal.loop-k-preserved
loop-k-preserved c = zeros_turn _ _ _ _ c.requires c.loop-k-test.true c.loop-k.invariant c.keep_layer-st.ensures

pub returns : goal.returns
returns c = zeros_end _ _ _ _ c.loop-k-test.false c.loop-k.invariant
