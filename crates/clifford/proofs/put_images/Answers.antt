-- Three images, one after the other. Assumes nothing.
use Rattle.clifford.specs.Images.{own_first, own_second, own_third, own_put}
use Rattle.clifford.proofs.put_images.Goals as goal

pub put_image-requires : goal.put_image-requires
put_image-requires c = own_first c.requires

pub put_image-requires-2 : goal.put_image-requires-2
put_image-requires-2 c = own_second c.requires c.put_image.ensures

pub put_image-requires-3 : goal.put_image-requires-3
put_image-requires-3 c = own_third c.requires c.put_image.ensures c.put_image-2.ensures

pub returns : goal.returns
returns c = own_put c.requires c.put_image.ensures c.put_image-2.ensures c.put_image-3.ensures
