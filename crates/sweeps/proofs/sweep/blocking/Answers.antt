-- The place that is asked first, else the first one. Assumes nothing.
use Rattle.commuting.specs.Commuting.{entry_in, axes_given}
use Rattle.commuting.specs.Blocking.{blocking_at}
use Rattle.sweeps.proofs.sweep.blocking.Goals as goal

pub axis_at-other-requires : goal.axis_at-other-requires
axis_at-other-requires c = entry_in c.requires c.args.axes.stored _ c.if-at-end.true

pub anticommute-requires : goal.anticommute-requires
anticommute-requires c = axes_given c.requires _ c.if-from-at.true c.if-at-end.true _ c.axis_at-other.ensures

pub returns-then-anticommute : goal.returns-then-anticommute
returns-then-anticommute c =
    let here = blocking_at c.if-from-at.true c.if-at-end.true c.axis_at-other.ensures c.anticommute.ensures c.if-anticommute.true in
    (c.if-from-at.true, c.if-at-end.true, (here.some c.if-at-end.true).1)
