-- The bit's entry is high enough, or is written. Assumes nothing.
use Rattle.depth.specs.Tops.{raised_not, raised_one, top_in}
use native.Mathlib.Omega.{arith}
use Rattle.depth.proofs.raise_one.Goals as goal

pub returns-then-v-top_of : goal.returns-then-v-top_of
returns-then-v-top_of c = raised_not c.top_of.ensures c.if-v-top_of.true

pub write-requires : goal.write-requires
write-requires c = (c.requires.long, omega arith, top_in _ _ c.requires.some c.top_at.ensures)

pub returns : goal.returns
returns c = raised_one c.requires c.top_of.ensures c.if-v-top_of.false c.top_at.ensures c.write.ensures
