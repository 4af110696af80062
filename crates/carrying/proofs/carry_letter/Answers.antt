-- The letter is multiplied itself where its qubit is not touched, else its image. Assumes nothing.
use mathlib.Core.Path.{◌∙◌}
use Rattle.carrying.specs.Letters.{letter_long, letter_qubit, letter_times, own_letter, held_letter, letter_image_there}
use Rattle.carrying.proofs.carry_letter.Goals as goal

pub letter_at-letter-requires : goal.letter_at-letter-requires
letter_at-letter-requires c = (letter_long c.requires.it c.axis.ensures, letter_qubit c.requires.it)

pub returns-then-slot-eq0 : goal.returns-then-slot-eq0
returns-then-slot-eq0 c =
    λ t h. own_letter h c.axis.ensures c.letter_at-letter.ensures c.read-slot.ensures c.if-slot-eq0.true
    c.times_letter.ensures

pub times_image-requires : goal.times_image-requires
times_image-requires c = (
  letter_times c.requires.it,
  letter_image_there c.requires.it c.axis.ensures (c.from.ensures ∙ c.letter_at-letter.ensures) c.read-slot.ensures
      c.if-slot-eq0.false,
  c.requires.it.small,
)

pub returns : goal.returns
returns c =
    λ t h. held_letter h c.axis.ensures (c.from.ensures ∙ c.letter_at-letter.ensures) c.read-slot.ensures
    c.if-slot-eq0.false c.times_image.ensures
