-- The letter of the number makes the word that the number does. Assumes nothing.
use Rattle.std.proofs.Common.{◌∙◌}
use Rattle.letter.specs.Letters.{single_numbered}
use Rattle.letter.proofs.put_letter.Goals as goal

pub returns : goal.returns
returns c = c.write_letter.ensures ∙ rw (c.into.ensures, single_numbered)
