-- The level's signatures share no bit, or its list is walked. Assumes nothing.
use Rattle.depth.specs.Looking.{reached_short, asks_none, asks_walk}
use native.Mathlib.Omega.{arith}
use Rattle.depth.proofs.asks.Goals as goal

pub read_wide-requires : goal.read_wide-requires
read_wide-requires c = (
  c.args.axes.stored.numbers_long,
  omega arith,
  omega
      (arith, reached_short c.requires.0.levels, c.requires.1, c.requires.2, c.requires.0.here),
)

pub returns-then-read_wide-sig-eq0 : goal.returns-then-read_wide-sig-eq0
returns-then-read_wide-sig-eq0 c = asks_none c.requires.0 c.requires.1 c.requires.2 c.read_wide.ensures c.if-read_wide-sig-eq0.true

pub walk-requires : goal.walk-requires
walk-requires c = asks_walk c.requires.0 c.requires.1 c.requires.2
