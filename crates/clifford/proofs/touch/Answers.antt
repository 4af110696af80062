-- A qubit that has a slot stays; else the sum is tested, and its letters are its images. Assumes nothing.
use mathlib.Core.Path.{refl}
use Rattle.clifford.specs.Holds.{as_slots, as_limit, left_none}
use Rattle.clifford.specs.Touching.{touch_there, touch_limit, own_there, own_long, mask_there, touch_left, touch_next, slots_small}
use Rattle.clifford.specs.Touching.{qubit_entry}
use native.Mathlib.Omega.{arith}
use Rattle.clifford.proofs.touch.Goals as goal

pub returns-then-read-ne0 : goal.returns-then-read-ne0
returns-then-read-ne0 c = (left_none _ _ _, λ t h. as_slots refl (touch_there h c.read.ensures c.if-read-ne0.true))

pub returns-then-shape-sum : goal.returns-then-shape-sum
returns-then-shape-sum c = (left_none _ _ _, λ t h. as_limit (touch_limit h c.read.ensures c.if-read-ne0.false c.if-shape-sum.true))

pub put_images-requires : goal.put_images-requires
put_images-requires c = own_there c.requires.it c.read.ensures c.if-read-ne0.false c.if-shape-sum.false

pub mask_at-requires : goal.mask_at-requires
mask_at-requires c = omega (arith, c.requires.it.at.granted.sized.limit, c.requires.it.at.granted.sized.few)

pub mark-requires : goal.mark-requires
mark-requires c =
    mask_there c.requires.it c.read.ensures c.if-read-ne0.false c.if-shape-sum.false c.put_images.ensures
    c.mask_at.ensures

pub overflow_add-st : goal.overflow_add-st
overflow_add-st c = omega (arith, slots_small c.requires.it c.read.ensures c.if-read-ne0.false c.if-shape-sum.false)

pub overflow_cast-st : goal.overflow_cast-st
overflow_cast-st c = omega (arith, slots_small c.requires.it c.read.ensures c.if-read-ne0.false c.if-shape-sum.false)

pub write-requires : goal.write-requires
write-requires c = (
  own_long c.requires.it c.read.ensures c.if-read-ne0.false c.if-shape-sum.false c.put_images.ensures,
  omega arith,
  qubit_entry c.requires.it,
)

pub overflow_add-result : goal.overflow_add-result
overflow_add-result c = omega (arith, slots_small c.requires.it c.read.ensures c.if-read-ne0.false c.if-shape-sum.false)

pub shape_of-words : goal.shape_of-words
shape_of-words c = (touch_left c.requires.it c.read.ensures c.if-read-ne0.false c.if-shape-sum.false c.put_images.ensures
    c.mask_at.ensures c.mark.ensures c.write.ensures).words.long

pub shape_of-numbers : goal.shape_of-numbers
shape_of-numbers c = (touch_left c.requires.it c.read.ensures c.if-read-ne0.false c.if-shape-sum.false c.put_images.ensures
    c.mask_at.ensures c.mark.ensures c.write.ensures).numbers.long

pub returns : goal.returns
returns c = (
  touch_left c.requires.it c.read.ensures c.if-read-ne0.false c.if-shape-sum.false c.put_images.ensures
      c.mask_at.ensures c.mark.ensures c.write.ensures,
  λ t h. as_slots refl (touch_next h
      c.read.ensures c.if-read-ne0.false c.if-shape-sum.false c.put_images.ensures c.mask_at.ensures
      c.mark.ensures c.write.ensures c.peak_with.ensures),
)
