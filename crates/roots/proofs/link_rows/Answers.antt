-- The frame rows from r on are linked. Assumes nothing.
use Prim.Native.Nat.{◌<◌}
use Rattle.roots.specs.Linking.{rows_need, rows_turn}
use native.Mathlib.Omega.{arith}
use Rattle.roots.proofs.link_rows.Goals as goal

pub link_row-requires : goal.link_row-requires
link_row-requires c =
    let h : 0 < c.loop-r.r = omega arith in
    rows_need _ _ _ c.requires h c.loop-r.invariant

pub loop-r-preserved : goal.loop-r-preserved
loop-r-preserved c =
    let h : 0 < c.loop-r.r = omega arith in
    rows_turn _ _ _ h c.loop-r.invariant c.link_row.ensures
