-- The word is lent, and weighed. Assumes nothing.
use native.Mathlib.Omega.{arith}
use Rattle.axes.specs.View.{read_long}
use Rattle.counters.specs.Weight.{axis_weight}
use Rattle.counters.proofs.axis_weight.Goals as goal

pub weight-requires : goal.weight-requires
weight-requires c =
    let p = c.requires in
    (read_long _ _ _ c.word.ensures p.word, let f = p.few in omega arith)

pub returns : goal.returns
returns c = axis_weight c.word.ensures c.weight.ensures
