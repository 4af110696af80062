-- The tests are the definition's. Assumes nothing.
use mathlib.Core.Path.{refl}
use Rattle.model.specs.Checking.{bad_option}
use Rattle.checking.proofs.bad_option.Goals as goal

pub returns : goal.returns
unfolding bad_option
returns c = refl
