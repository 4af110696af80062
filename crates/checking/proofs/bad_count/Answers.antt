-- The tests are the definition's. Assumes nothing.
use mathlib.Core.Path.{refl}
use Rattle.model.specs.Checking.{bad_count}
use Rattle.checking.proofs.bad_count.Goals as goal

pub returns : goal.returns
unfolding bad_count
returns c = refl
