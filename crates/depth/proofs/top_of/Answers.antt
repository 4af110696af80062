-- The entry of the bit is read. Assumes nothing.
use Rattle.depth.specs.Tops.{top_in, top_read}
use native.Mathlib.Omega.{arith}
use Rattle.depth.proofs.top_of.Goals as goal

pub read-requires : goal.read-requires
read-requires c = (c.requires.long, omega arith, top_in _ _ c.requires.some c.top_at.ensures)

pub returns : goal.returns
returns c = top_read _ _ _ c.read.ensures c.top_at.ensures
