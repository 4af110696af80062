-- The loop's invariant: the lines of the qubits below q are printed. Assumes nothing.
use mathlib.Core.Path.{refl}
use Rattle.listing_print.specs.Printed.{printed_long, joined_first, joined_room, joined_turn, joined_end}
use native.Mathlib.Omega.{arith}
use Rattle.listing_print.proofs.letters.axis.Goals as goal

pub loop-q-init : goal.loop-q-init
loop-q-init c = (omega arith, refl, joined_first _ _ _ _ c.requires.2)

pub qubit-next-requires : goal.qubit-next-requires
qubit-next-requires c = (
  c.requires.0,
  omega (arith, c.loop-q-test.true),
  joined_room _ _ c.loop-q.invariant.2 _ c.requires.2 (omega (arith, c.loop-q-test.true)),
)

pub loop-q-preserved : goal.loop-q-preserved
loop-q-preserved c = (omega arith, refl, joined_turn _ _ c.loop-q.invariant.2 c.qubit-next.ensures)

pub shape_of-out : goal.shape_of-out
shape_of-out c = printed_long c.loop-q.invariant.2

pub returns : goal.returns
returns c = joined_end _ _ c.loop-q.invariant.2 _ (omega arith)
