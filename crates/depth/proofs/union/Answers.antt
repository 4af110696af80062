-- What is reached ends below, or the level's entry is read. Assumes nothing.
use Rattle.depth.specs.Lists.{union_at, begun_new, begun_old}
use Rattle.depth.proofs.union.Goals as goal

pub returns-then-reached-v : goal.returns-then-reached-v
returns-then-reached-v c = begun_new c.if-reached-v.true

pub returns : goal.returns
unfolding union_at
returns c = begun_old c.if-reached-v.false c.read_wide.ensures
