-- A shift and a remainder give a bit. Assumes nothing.
use mathlib.Core.Path.{sym}
use Rattle.bits.specs.Bit.{bit_is}
use Rattle.letter.proofs.plane_bit.Goals as goal

pub returns : goal.returns
returns c = sym (bit_is _ _)
