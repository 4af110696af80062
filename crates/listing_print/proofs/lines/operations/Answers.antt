-- The loop's invariant: the lines of the first i records are printed. Assumes nothing.
use Rattle.model.specs.Listing.{result_line}
use Rattle.listing_print.specs.Printed.{room_as, printed_as, printed_long}
use Rattle.listing_print.specs.Printed.{joined_first, joined_room, joined_turn, joined_end}
use Rattle.listing_print.specs.Texts.{record_cut, record_long, records_joined}
use native.Mathlib.Omega.{arith}
use Rattle.listing_print.proofs.lines.operations.Goals as goal

pub loop-i-init : goal.loop-i-init
loop-i-init c = (omega arith, joined_first _ _ _ _ (room_as _ (records_joined _ 6 _ _) c.requires.1))

pub operation-next-requires : goal.operation-next-requires
operation-next-requires c = (
  record_long 6 c.args.count c.args.s.now c.loop-i.i (omega (arith, c.requires.0)) c.loop-i-test.true,
  room_as _ (record_cut result_line 6 c.args.s.now c.loop-i.i)
      (joined_room _ _ c.loop-i.invariant.1 _ (room_as _ (records_joined _ 6 _ _) c.requires.1) c.loop-i-test.true),
)

pub loop-i-preserved : goal.loop-i-preserved
loop-i-preserved c = (
  omega arith,
  joined_turn _ _ c.loop-i.invariant.1
      (printed_as (record_cut result_line 6 c.args.s.now c.loop-i.i) c.operation-next.ensures),
)

pub shape_of-out : goal.shape_of-out
shape_of-out c = printed_long c.loop-i.invariant.1

pub returns : goal.returns
returns c = printed_as (records_joined _ 6 _ _) (joined_end _ _ c.loop-i.invariant.1 _ (omega arith))
