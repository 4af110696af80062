-- The loop's invariant: the columns of the fields so far are printed. Assumes nothing.
use lib.ListN.{get_or}
use Rattle.listing_print.specs.Printed.{printed_long, joined_first, joined_room, joined_turn, joined_end}
use Rattle.listing_columns.specs.Columns.{column_length}
use native.Mathlib.Omega.{arith}
use Rattle.listing_print.proofs.lines.fields.Goals as goal

pub loop-n-init : goal.loop-n-init
loop-n-init c = joined_first _ _ _ _ c.requires

pub put-next-requires : goal.put-next-requires
put-next-requires c =
    omega (
      arith,
      joined_room _ _ c.loop-n.invariant _ c.requires c.loop-n-test.true,
      column_length (get_or c.args.ns.now c.loop-n.n-index 0),
    )

pub loop-n-preserved : goal.loop-n-preserved
loop-n-preserved c = joined_turn _ _ c.loop-n.invariant c.put-next.ensures

pub shape_of-out : goal.shape_of-out
shape_of-out c = printed_long c.loop-n.invariant

pub returns : goal.returns
returns c = joined_end _ _ c.loop-n.invariant _ (omega arith)
