-- What the core and the adder say together. Assumes nothing.
use Rattle.lent_passes.specs.Exchange.{room_for, exchanged}
use Rattle.lent_passes.proofs.exchange_pass.Goals as goal

pub add_exchanged-requires : goal.add_exchanged-requires
add_exchanged-requires c = room_for c.args.stats.now c.requires.1 c.swap_segments-r.ensures

pub returns : goal.returns
returns c = exchanged c.args.stats.now c.swap_segments-r.ensures c.add_exchanged.ensures
