-- The images before the i-th are changed. Assumes nothing.
use Rattle.absorbing.specs.Turning.{turned_none, turn_pre, turned_more, turned_all}
use native.Mathlib.Omega.{arith}
use Rattle.absorbing.proofs.turn_images.Goals as goal

pub loop-i-init : goal.loop-i-init
loop-i-init c = (c.requires.1, omega arith, turned_none)

pub turn_image-requires : goal.turn_image-requires
turn_image-requires c = turn_pre c.requires.0 c.loop-i.invariant.2 c.loop-i-test.true

pub loop-i-preserved : goal.loop-i-preserved
loop-i-preserved c =
    let low = c.loop-i.invariant.1 in (
      omega arith,
      omega arith,
      turned_more c.requires.0 c.loop-i.invariant.2 c.loop-i-test.true low c.turn_image.ensures,
    )

pub shape_of-words : goal.shape_of-words
shape_of-words c = c.loop-i.invariant.2.words.long

pub shape_of-numbers : goal.shape_of-numbers
shape_of-numbers c = c.loop-i.invariant.2.numbers.long

pub returns : goal.returns
returns c = turned_all c.loop-i.invariant.2 (omega arith) c.loop-i.invariant.0
