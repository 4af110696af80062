-- One number more goes into both. Assumes nothing.
use Rattle.std.proofs.Common.{refl}
use Rattle.axes.specs.Pick.{total_to, hash_to, total_more, hash_more}
use Rattle.interning.proofs.sums_of.Goals as goal

pub loop-number-init : goal.loop-number-init
unfolding total_to hash_to
loop-number-init c = (refl, refl)

pub loop-number-preserved : goal.loop-number-preserved
loop-number-preserved c =
    let w = c.args.w.now in (
      total_more w c.loop-number.number-index c.loop-number.invariant.0 refl,
      hash_more w c.loop-number.number-index c.loop-number.invariant.1 c.mixed_halves.ensures refl,
    )
