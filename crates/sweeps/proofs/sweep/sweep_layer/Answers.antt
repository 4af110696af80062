-- Its rotations move or stay, and those that stay are laid. Assumes nothing.
use Rattle.sweeps.specs.Sweeping.{layer_moves, layer_lay, layer_swept}
use Rattle.sweeps.proofs.sweep.sweep_layer.Goals as goal

pub move_rotations-s-requires : goal.move_rotations-s-requires
move_rotations-s-requires c = layer_moves _ _ _ _ _ c.requires c.begin_of-from.ensures c.begin_of-end.ensures

pub lay_stay-requires : goal.lay_stay-requires
lay_stay-requires c =
    layer_lay _ _ _ _ _ c.requires c.begin_of-from.ensures c.begin_of-end.ensures
    c.move_rotations-s.ensures

pub returns : goal.returns
returns c =
    layer_swept _ _ _ _ _ c.requires c.begin_of-from.ensures c.begin_of-end.ensures
    c.move_rotations-s.ensures c.lay_stay.ensures
