-- The loop's invariant: those above level `below` commute. Assumes nothing.
use Rattle.std.proofs.Common.{◌≡◌, ◌+◌, ◌-◌, arith}
use Rattle.depth.specs.Looking.{bit_pre, look_start, look_next, look_found, look_end}
use Rattle.depth.proofs.level.Goals as goal

pub bound-most-requires : goal.bound-most-requires
bound-most-requires c = bit_pre c.requires c.args.axes.stored

pub loop-below-init : goal.loop-below-init
loop-below-init c = look_start c.requires c.bound-most.ensures

pub returns-then-asks : goal.returns-then-asks
returns-then-asks c =
    let level : c.loop-below.below - 1 + 1 ≡ c.loop-below.below = omega arith in
    rw level (look_found c.requires c.loop-below.invariant (omega arith) (rw level at c.asks.ensures) c.if-asks.true)

pub loop-below-preserved : goal.loop-below-preserved
loop-below-preserved c =
    let level : c.loop-below.below - 1 + 1 ≡ c.loop-below.below = omega arith in
    look_next c.requires c.loop-below.invariant (omega arith) (rw level at c.asks.ensures) c.if-asks.false

pub returns : goal.returns
returns c = look_end c.requires c.loop-below.invariant (omega arith)
