-- The uses that nodes n and later make are counted. Assumes nothing.
use Prim.Native.Nat.{◌<◌}
use Rattle.roots.specs.UseLaws.{uses_need, uses_turn, uses_end}
use native.Mathlib.Omega.{arith}
use Rattle.roots.proofs.count_uses.Goals as goal

pub use_children-requires : goal.use_children-requires
use_children-requires c =
    let h : 0 < c.loop-n.n = omega arith in
    uses_need _ _ _ _ c.requires _ _ h c.loop-n.invariant

pub loop-n-preserved : goal.loop-n-preserved
loop-n-preserved c =
    let h : 0 < c.loop-n.n = omega arith in
    uses_turn _ _ _ _ c.requires _ _ h c.loop-n.invariant _ c.use_children.ensures

pub returns : goal.returns
returns c = uses_end _ _ _ _ (omega arith) c.loop-n.invariant
