-- Three cases: a free slot, none within the limit, or a new one. Assumes nothing.
use Rattle.packing.specs.ValueLaws.{taken_free, taken_limit, taken_new}
use Rattle.packing.proofs.values.take_slot.Goals as goal

pub returns-then-st-gt0 : goal.returns-then-st-gt0
returns-then-st-gt0 c = taken_free _ _ _ _ c.if-st-gt0.true c.read-taken.ensures

pub returns-then-shape-sum : goal.returns-then-shape-sum
returns-then-shape-sum c = taken_limit _ _ _ c.if-st-gt0.false c.if-shape-sum.true

pub returns : goal.returns
returns c = taken_new _ _ _ c.if-st-gt0.false c.if-shape-sum.false _ c.max.ensures
