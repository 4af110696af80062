-- The loop's invariant: the lines of the axes below id are printed. Assumes nothing.
use mathlib.Core.Path.{◌∙◌, ap}
use Prim.Native.Nat.{◌*◌}
use lib.ListN.{length}
use Rattle.store.specs.Chunk.{chunk_in}
use Rattle.store.specs.Part.{part_length}
use Rattle.axes.specs.View.{axis_word}
use Rattle.listing_print.specs.Printed.{room_as, printed_as, printed_long}
use Rattle.listing_print.specs.Printed.{joined_first, joined_room, joined_turn, joined_end}
use Rattle.listing_print.specs.Texts.{axis_text_lem, axes_joined}
use native.Mathlib.Omega.{arith}
use Rattle.listing_print.proofs.letters.axes.Goals as goal

pub loop-id-init : goal.loop-id-init
loop-id-init c = (omega arith, joined_first _ _ _ _ (room_as _ (axes_joined _ _ _) c.requires.2))

pub word-requires : goal.word-requires
word-requires c =
    let inside = chunk_in (2 * c.args.l) c.args.count c.loop-id.id c.loop-id-test.true in
    omega (arith, inside, c.requires.0)

pub axis-next-requires : goal.axis-next-requires
axis-next-requires c =
    let here = c.loop-id-test.true in
    let inside = chunk_in (2 * c.args.l) c.args.count c.loop-id.id here in (
      ap length (c.word.ensures _ here ∙ axis_word _ _ _ _ here) ∙ part_length _ _ _ (omega (arith, inside, c.requires.0)),
      c.requires.1,
      room_as _
          (axis_text_lem _ _ _ _ (c.word.ensures _ here ∙ axis_word _ _ _ _ here))
          (joined_room _ _ c.loop-id.invariant.1 _ (room_as _ (axes_joined _ _ _) c.requires.2) here),
    )

pub loop-id-preserved : goal.loop-id-preserved
loop-id-preserved c =
    let here = c.loop-id-test.true in (
      omega arith,
      joined_turn _ _ c.loop-id.invariant.1 (printed_as
          (axis_text_lem _ _ _ _ (c.word.ensures _ here ∙ axis_word _ _ _ _ here))
          c.axis-next.ensures),
    )

pub shape_of-out : goal.shape_of-out
shape_of-out c = printed_long c.loop-id.invariant.1

pub returns : goal.returns
returns c = printed_as (axes_joined _ _ _) (joined_end _ _ c.loop-id.invariant.1 _ (omega arith))
