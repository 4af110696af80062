-- A word is a part of the store. Assumes nothing.
use Rattle.store.specs.Part.{part_cut}
use Rattle.axes.proofs.word_at.Goals as goal

pub returns : goal.returns
returns c = part_cut _ _ _
