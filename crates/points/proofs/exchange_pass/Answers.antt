-- The exchange's pass. Assumes nothing.
use mathlib.Core.Path.{refl}
use Rattle.points.specs.Counts.{exchange_room}
use Rattle.points.specs.ExchangePass.{swap_pre, swapped_at}
use Rattle.points.proofs.exchange_pass.Goals as goal

pub exchange-t-requires : goal.exchange-t-requires
exchange-t-requires c = (
  swap_pre c.args.options c.sizes_of-z.ensures c.requires.0 c.requires.1,
  exchange_room c.requires.0 c.counters_of.ensures,
)

pub returns : goal.returns
returns c = (
  record { words = refl; numbers = c.exchange-t.ensures.0.only.long },
  swapped_at c.args.options c.sizes_of-z.ensures c.counters_of.ensures c.exchange-t.ensures
      c.with_counts.ensures,
)
