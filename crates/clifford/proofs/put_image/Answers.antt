-- A word of one letter is laid at the image's place. Assumes nothing.
use Rattle.clifford.specs.Images.{letter_there, letter_set}
use Rattle.clifford.proofs.put_image.Goals as goal

pub write_letter-requires : goal.write_letter-requires
write_letter-requires c = letter_there c.requires _ c.slot_at-at.ensures

pub returns : goal.returns
returns c = letter_set c.requires _ c.slot_at-at.ensures c.write_letter.ensures c.write.ensures
