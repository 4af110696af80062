-- Either half has 32 bits. Assumes nothing.
use Rattle.std.proofs.Common.{refl}
use Rattle.axes.specs.Pick.{mixed}
use Rattle.interning.proofs.mixed_halves.Goals as goal

pub returns : goal.returns
unfolding mixed
returns c = refl
