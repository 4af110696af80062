-- At an equal axis the angles are added, else the rotation is laid at the end. Assumes nothing.
use native.Mathlib.Omega.{arith}
use Rattle.layers.specs.Laying.{join_merged, join_laid}
use Rattle.layers.proofs.join.Goals as goal

pub returns-in-Some : goal.returns-in-Some
returns-in-Some c =
    let place = c.in-Some.ensures in
    join_merged _ _ _ _ _ _ c.requires place.1 place.0 c.angle_at.ensures c.add_angles-sum.ensures c.set_angle.ensures

pub returns : goal.returns
returns c = join_laid _ _ _ _ _ _ c.requires c.in_default.ensures (omega arith) c.put_rotation.ensures
