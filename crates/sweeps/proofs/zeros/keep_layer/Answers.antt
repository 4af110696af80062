-- A layer of which something is left is closed. Assumes nothing.
use Rattle.sweeps.specs.Zeros.{keep_need, layer_left, layer_close, layer_stays}
use Rattle.sweeps.proofs.zeros.keep_layer.Goals as goal

pub keep_rotations-len-requires : goal.keep_rotations-len-requires
keep_rotations-len-requires c = keep_need _ _ _ _ c.requires c.begin_of-from.ensures c.begin_of-end.ensures

pub returns-then-len-st : goal.returns-then-len-st
returns-then-len-st c =
    layer_left _ _ _ _ c.requires c.begin_of-from.ensures c.begin_of-end.ensures c.keep_rotations-len.ensures
    c.if-len-st.true

pub close-requires : goal.close-requires
close-requires c = layer_close _ _ _ _ c.requires c.begin_of-from.ensures c.begin_of-end.ensures c.keep_rotations-len.ensures

pub returns : goal.returns
returns c =
    layer_stays _ _ _ _ c.requires c.begin_of-from.ensures c.begin_of-end.ensures c.keep_rotations-len.ensures
    c.if-len-st.false c.close.ensures
