-- The image lies before the limit, the scratch word behind it. Assumes nothing.
use Rattle.carrying.specs.Scratch.{image_stored, image_multiplied}
use Rattle.carrying.proofs.times_image.Goals as goal

pub product_in-e-requires : goal.product_in-e-requires
product_in-e-requires c = image_stored c.requires.0 c.requires.1 c.scratch_at-scratch.ensures c.slot_at-at.ensures

pub returns : goal.returns
returns c =
    image_multiplied c.requires.0 c.requires.1 c.scratch_at-scratch.ensures c.slot_at-at.ensures
    c.read-turns.ensures c.product_in-e.ensures
