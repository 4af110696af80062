-- All images, or those of the qubits of the axis that F carries to it. Assumes nothing.
use Rattle.absorbing.specs.Turning.{all_turned, turned_at}
use Rattle.absorbing.specs.Absorbing.{axis_here, images_small, turns_there, source_here, acted_pre, acted_all}
use native.Mathlib.Omega.{arith}
use Rattle.absorbing.proofs.turn.Goals as goal

pub axis_at-b-requires : goal.axis_at-b-requires
axis_at-b-requires c = axis_here c.requires.it

pub overflow_mul-st : goal.overflow_mul-st
overflow_mul-st c = omega (arith, images_small c.requires.it)

pub turn_images-requires : goal.turn_images-requires
turn_images-requires c = (turns_there c.requires.it c.axis_at-b.ensures, omega arith)

pub returns-in_default : goal.returns-in_default
returns-in_default c = turned_at c.axis_at-b.ensures (all_turned c.turn_images.ensures)

pub axis_at-at-requires : goal.axis_at-at-requires
axis_at-at-requires c = source_here c.requires.it c.axis_at-b.ensures c.in-Some.is

pub turn_acted-requires : goal.turn_acted-requires
turn_acted-requires c = record
    { count = _; it = acted_pre c.requires.it c.axis_at-b.ensures c.in-Some.is c.axis_at-at.ensures }

pub returns : goal.returns
returns c =
    turned_at c.axis_at-b.ensures (acted_all c.requires.it c.axis_at-b.ensures c.in-Some.is
    c.axis_at-at.ensures (c.turn_acted.ensures _
    (acted_pre c.requires.it c.axis_at-b.ensures c.in-Some.is c.axis_at-at.ensures)))
