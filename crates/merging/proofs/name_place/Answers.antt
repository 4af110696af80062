-- It is not to wait, or it comes into the list. Assumes nothing.
use Rattle.merging.specs.Steps.{place_quiet, insert_pre, place_named}
use mathlib.Core.Path.{refl}
use native.Mathlib.Omega.{arith}
use Rattle.merging.proofs.name_place.Goals as goal

pub returns-then-not-later : goal.returns-then-not-later
returns-then-not-later c = place_quiet c.later.ensures c.if-not-later.true

pub insert-n-requires : goal.insert-n-requires
insert-n-requires c = insert_pre _ c.later.ensures c.if-not-later.false c.requires

pub overflow_cast-a : goal.overflow_cast-a
overflow_cast-a c = omega (arith, c.requires.axis, c.requires.small)

pub write-requires : goal.write-requires
write-requires c = (omega (arith, c.requires.numbers_long, c.insert-n.ensures.only.long), omega arith, c.requires.place)

pub shape_of-numbers : goal.shape_of-numbers
shape_of-numbers c = (place_named {k = 0} c.requires c.insert-n.ensures c.write.ensures refl).only.long

pub returns : goal.returns
returns c = place_named c.requires c.insert-n.ensures c.write.ensures refl
