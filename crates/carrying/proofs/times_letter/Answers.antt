-- The letter is laid behind the scratch word, and multiplied. Assumes nothing.
use Rattle.carrying.specs.Scratch.{own_stored, own_multiplied}
use Rattle.carrying.proofs.times_letter.Goals as goal

pub product_in-e-requires : goal.product_in-e-requires
product_in-e-requires c = own_stored c.requires.0 c.requires.1 c.scratch_at-scratch.ensures _ c.write_letter.ensures

pub returns : goal.returns
returns c =
    own_multiplied c.requires.0 c.requires.1 c.scratch_at-scratch.ensures _ c.write_letter.ensures _
    c.product_in-e.ensures
