-- The layering pass. Assumes nothing.
use mathlib.Core.Path.{refl}
use Rattle.points.specs.Counts.{layering_room}
use Rattle.points.specs.LayeringPass.{layer_pre, layered_at}
use Rattle.points.proofs.layering_pass.Goals as goal

pub layering-t-requires : goal.layering-t-requires
layering-t-requires c = (layer_pre c.sizes_of-z.ensures c.requires, layering_room c.requires c.counters_of.ensures)

pub returns : goal.returns
returns c = (
  record { words = refl; numbers = c.layering-t.ensures.0.only.long },
  layered_at c.sizes_of-z.ensures c.counters_of.ensures c.layering-t.ensures c.with_counts.ensures,
)
