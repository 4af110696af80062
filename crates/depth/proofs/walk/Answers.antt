-- The loop's invariant: those of the level's list before place p commute. Assumes nothing.
use Rattle.depth.specs.Looking.{walk_start, walk_axes, walk_found, walk_less, walk_next, walk_end}
use Rattle.depth.proofs.walk.Goals as goal

pub loop-p-init : goal.loop-p-init
loop-p-init c = walk_start c.requires c.read-p.ensures

pub anticommute-requires : goal.anticommute-requires
anticommute-requires c = walk_axes c.requires c.loop-p-test.true c.loop-p.invariant c.axis_at-other.ensures

pub returns-then-anticommute : goal.returns-then-anticommute
returns-then-anticommute c =
    walk_found c.requires c.loop-p-test.true c.loop-p.invariant c.axis_at-other.ensures c.anticommute.ensures
    c.if-anticommute.true

pub loop-p-smaller : goal.loop-p-smaller
loop-p-smaller c =
    walk_less c.requires c.loop-p-test.true c.loop-p.invariant c.axis_at-other.ensures c.anticommute.ensures
    c.if-anticommute.false c.read-p-in-loop-p.ensures

pub loop-p-preserved : goal.loop-p-preserved
loop-p-preserved c =
    walk_next c.requires c.loop-p-test.true c.loop-p.invariant c.axis_at-other.ensures c.anticommute.ensures
    c.if-anticommute.false c.read-p-in-loop-p.ensures

pub returns : goal.returns
returns c = walk_end c.requires c.loop-p-test.false c.loop-p.invariant
