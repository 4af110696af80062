-- A zero is passed over, another is laid behind the rest. Assumes nothing.
use Rattle.sweeps.specs.Zeros.{keep_zero, keep_nonzero}
use Rattle.sweeps.proofs.zeros.keep_rotation.Goals as goal

pub returns-then-x-eq0 : goal.returns-then-x-eq0
returns-then-x-eq0 c = keep_zero _ _ _ _ c.item_at-x.ensures c.if-x-eq0.true

pub returns : goal.returns
returns c = keep_nonzero _ _ _ _ c.item_at-x.ensures c.if-x-eq0.false c.put_item.ensures
