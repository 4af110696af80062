-- What the core and the adder say together. Assumes nothing.
use Rattle.lent_passes.specs.Layering.{room_for, layered}
use Rattle.lent_passes.proofs.layering_pass.Goals as goal

pub add_layered-requires : goal.add_layered-requires
add_layered-requires c = room_for c.args.stats.now c.requires.1 c.layer_segments-r.ensures

pub returns : goal.returns
returns c = layered c.args.stats.now c.layer_segments-r.ensures c.add_layered.ensures
