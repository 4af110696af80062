-- The tests are the definition's. Assumes nothing.
use mathlib.Core.Path.{refl}
use Rattle.model.specs.Checking.{bad_reference}
use Rattle.checking.proofs.bad_reference.Goals as goal

pub returns : goal.returns
unfolding bad_reference
returns c = refl
