-- The operations from i on are linked, in front of the frame rows. Assumes nothing.
use Prim.Native.Nat.{◌<◌}
use Rattle.roots.specs.Linking.{operations_need, operations_turn}
use native.Mathlib.Omega.{arith}
use Rattle.roots.proofs.link_operations.Goals as goal

pub link_operation-requires : goal.link_operation-requires
link_operation-requires c =
    let h : 0 < c.loop-i.i = omega arith in
    operations_need _ _ _ c.requires h c.loop-i.invariant

pub loop-i-preserved : goal.loop-i-preserved
loop-i-preserved c =
    let h : 0 < c.loop-i.i = omega arith in
    operations_turn _ _ _ h c.loop-i.invariant c.link_operation.ensures
