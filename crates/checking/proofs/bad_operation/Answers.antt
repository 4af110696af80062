-- The tests are the definition's. Assumes nothing.
use mathlib.Core.Path.{refl}
use Rattle.model.specs.Checking.{bad_operation}
use Rattle.checking.proofs.bad_operation.Goals as goal

pub returns : goal.returns
unfolding bad_operation
returns c = refl
