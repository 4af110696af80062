-- The rows are cleared, the frame rows linked, then the operations. Assumes nothing.
use Rattle.roots.specs.Linking.{first_rows, then_operations, roots_linked}
use Rattle.roots.proofs.link_roots.Goals as goal

pub link_rows-requires : goal.link_rows-requires
link_rows-requires c = first_rows _ _ _ _ _ _ c.requires c.clear_row.ensures c.clear_row-2.ensures

pub link_operations-requires : goal.link_operations-requires
link_operations-requires c =
    let p = c.requires in
    then_operations _ _ _ _ _ _ p c.clear_row.ensures c.clear_row-2.ensures _ c.link_rows.ensures

pub returns : goal.returns
returns c =
    let p = c.requires in
    roots_linked _ _ _ _ _ _ p c.clear_row.ensures c.clear_row-2.ensures _ c.link_rows.ensures c.link_operations.ensures
