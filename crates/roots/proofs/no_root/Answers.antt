-- Two entries are written. Assumes nothing.
use Rattle.packing_states.specs.ReferenceRows.{reference_rows_lem}
use Rattle.roots.proofs.no_root.Goals as goal

pub returns : goal.returns
returns c =
    let p = c.requires in
    reference_rows_lem p.0 p.1 c.write.ensures c.write-2.ensures
