-- `last` names the place, the rotation is written there, and its place is named if it waits. Assumes nothing.
use Rattle.merging.specs.Steps.{put_name, out_put}
use Rattle.merging.proofs.put_out.Goals as goal

pub name_place-requires : goal.name_place-requires
name_place-requires c = put_name c.requires c.write.ensures c.put_rotation.ensures

pub shape_of-numbers : goal.shape_of-numbers
shape_of-numbers c = (out_put c.requires c.write.ensures c.put_rotation.ensures c.name_place.ensures).left.long

pub returns : goal.returns
returns c = out_put c.requires c.write.ensures c.put_rotation.ensures c.name_place.ensures
