-- The list, the union and the bits' levels, one after the other. Assumes nothing.
use Rattle.depth.specs.Lists.{entered}
use Rattle.depth.proofs.enter.Goals as goal

pub returns : goal.returns
returns c = entered c.put_last.ensures c.join.ensures c.raise.ensures
