-- The walk begins, ends at no axis, meets the word, or goes on behind another axis. Assumes nothing.
use Rattle.interning.specs.Find.{walking_first, walking_in, walking_end, walking_axis, walking_here, walking_next}
use Rattle.interning.proofs.find.Goals as goal

pub loop-axis-init : goal.loop-axis-init
loop-axis-init c = walking_first c.args.axes.stored _ c.sums_of.ensures c.from_head-walk.ensures

pub named_at-requires : goal.named_at-requires
named_at-requires c = walking_in c.args.axes.stored c.loop-axis.invariant

pub returns-then-same : goal.returns-then-same
returns-then-same c =
    walking_here c.args.axes.stored c.loop-axis.invariant c.in-Some.ensures c.same.ensures c.if-same.true
    c.axis.ensures

pub loop-axis-smaller : goal.loop-axis-smaller
loop-axis-smaller c = (walking_next c.args.axes.stored c.loop-axis.invariant c.in-Some.ensures c.same.ensures c.if-same.false
    c.axis.ensures c.behind-walk.ensures).1

pub loop-axis-preserved : goal.loop-axis-preserved
loop-axis-preserved c = (walking_next c.args.axes.stored c.loop-axis.invariant c.in-Some.ensures c.same.ensures c.if-same.false
    c.axis.ensures c.behind-walk.ensures).0

pub returns : goal.returns
returns c = walking_end c.args.axes.stored c.loop-axis.invariant c.in_default.ensures

pub axis-requires : goal.axis-requires
axis-requires c = walking_axis c.args.axes.stored c.loop-axis.invariant c.in-Some.ensures
