-- The two bits of the qubit make its letter. Assumes nothing.
use mathlib.Core.Path.{ap₂, ◌∙◌}
use Rattle.pauli.specs.Letter.{letter_of}
use Rattle.letter.proofs.letter_at.Goals as goal

pub returns : goal.returns
returns c = c.letter_of.ensures ∙ ap₂ letter_of c.plane_bit.ensures c.plane_bit-2.ensures
