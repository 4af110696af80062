-- What the core and the adder say together. Assumes nothing.
use Rattle.lent_passes.specs.Counted.{room_for, streamed}
use Rattle.lent_passes.proofs.stream_pass.Goals as goal

pub add_counted-requires : goal.add_counted-requires
add_counted-requires c = room_for c.requires.1 c.stream_counted-r.ensures

pub returns : goal.returns
returns c = streamed c.stream_counted-r.ensures c.add_counted.ensures
