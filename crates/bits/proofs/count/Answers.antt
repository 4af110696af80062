-- The machine's count is `ones`, which `popcount` equals. Assumes nothing.
use mathlib.Core.Path.{sym}
use Rattle.bits.specs.Popcount.{popcount_ones}
use lib.Count.{ones-le}
use Rattle.bits.proofs.count.Goals as goal

pub returns : goal.returns
returns c = (sym (popcount_ones c.args.w), ones-le 64 c.args.w c.ranges.w.fits)
