-- The first layer begins at 0, another where the one before ends. Assumes nothing.
use Rattle.layers.specs.View.{begin_zero, begin_read}
use Rattle.layers.proofs.begin_of.Goals as goal

pub returns-then-k-eq0 : goal.returns-then-k-eq0
returns-then-k-eq0 c = begin_zero _ _ _ _ c.if-k-eq0.true

pub returns : goal.returns
returns c = begin_read _ _ _ _ c.if-k-eq0.false c.read.ensures
