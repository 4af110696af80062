-- The numbers in their order. Assumes nothing.
use mathlib.Core.Path.{refl}
use Rattle.werdutxa.specs.Calls.{counted_by}
use Rattle.werdutxa.proofs.count.Goals as goal

pub returns : goal.returns
unfolding counted_by
returns c = refl
