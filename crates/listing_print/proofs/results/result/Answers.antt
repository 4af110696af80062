-- The first line, the operations, the rows, the letters. Assumes nothing.
use mathlib.Core.Path.{refl}
use Rattle.listing_print.specs.Results.{head_room, operations_room, rows_room, axes_asked, result_printed}
use Rattle.listing_print.proofs.results.result.Goals as goal

pub head-a-requires : goal.head-a-requires
head-a-requires c = head_room _ _ _ _ _ _ _ _ c.requires

pub operations-b-requires : goal.operations-b-requires
operations-b-requires c =
    let p = c.requires in
    (p.operations_in_lem, operations_room _ _ _ _ _ _ _ _ p refl c.head-a.ensures)

pub rows-d-requires : goal.rows-d-requires
rows-d-requires c =
    let p = c.requires in (
      p.rows_in,
      rows_room _ _ _ _ _ _ _ _ p refl c.head-a.ensures
          c.operations-b.ensures,
    )

pub axes-requires : goal.axes-requires
axes-requires c =
    axes_asked _ _ _ _ _ _ _ _ c.requires refl c.head-a.ensures c.operations-b.ensures c.rows-d.ensures
    c.width-l.ensures

pub returns : goal.returns
returns c =
    result_printed _ _ _ _ _ _ _ _ c.requires refl c.head-a.ensures c.operations-b.ensures c.rows-d.ensures
    c.width-l.ensures c.axes.ensures
