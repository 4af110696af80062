-- A rotation by nothing stops no axis. Assumes nothing.
use Rattle.merging.specs.Reach.{blocks_entry, blocks_there, blocks_zero, blocks_some}
use Rattle.merging.proofs.blocks.Goals as goal

pub angle_at-requires : goal.angle_at-requires
angle_at-requires c = blocks_entry c.args.axes.stored c.requires

pub returns-then-angle_at-eq0 : goal.returns-then-angle_at-eq0
returns-then-angle_at-eq0 c = blocks_zero c.args.axes.stored c.requires c.angle_at.ensures c.if-angle_at-eq0.true

pub axis_at-axis-requires : goal.axis_at-axis-requires
axis_at-axis-requires c = blocks_entry c.args.axes.stored c.requires

pub anticommute-requires : goal.anticommute-requires
anticommute-requires c = (blocks_there c.args.axes.stored c.requires c.axis_at-axis.ensures, c.requires.axis)

pub returns : goal.returns
returns c = blocks_some c.args.axes.stored c.requires c.angle_at.ensures c.if-angle_at-eq0.false c.axis_at-axis.ensures c.anticommute.ensures
