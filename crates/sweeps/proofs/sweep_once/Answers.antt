-- Without layers nothing moves; else a sweep, and its zeros leave. Assumes nothing.
use Rattle.sweeps.specs.Sweeps.{once_none, once_sweep, once_zeros, once_swept}
use Rattle.sweeps.proofs.sweep_once.Goals as goal

pub returns-then-laid-eq0 : goal.returns-then-laid-eq0
returns-then-laid-eq0 c = once_none _ _ _ _ c.requires c.if-laid-eq0.true

pub sweep-s-requires : goal.sweep-s-requires
sweep-s-requires c = once_sweep _ _ _ c.args.st c.requires c.if-laid-eq0.false

pub drop_zeros-kept-requires : goal.drop_zeros-kept-requires
drop_zeros-kept-requires c = once_zeros _ _ _ c.args.st c.requires c.sweep-s.ensures

pub returns : goal.returns
returns c = once_swept _ _ _ _ c.requires c.sweep-s.ensures c.drop_zeros-kept.ensures
