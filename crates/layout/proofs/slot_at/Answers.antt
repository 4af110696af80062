-- The place is `slotPlace`. Assumes nothing.
use mathlib.Core.Path.{refl}
use Rattle.layout.specs.Words.{slot_place}
use Rattle.layout.proofs.slot_at.Goals as goal

pub returns : goal.returns
unfolding slot_place
returns c = refl
