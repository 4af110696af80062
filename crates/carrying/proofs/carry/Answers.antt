-- Where no qubit is held F is the identity. Assumes nothing.
use mathlib.Core.Path.{refl}
use Rattle.steps.specs.State.{step_with}
use Rattle.carrying.specs.Carrying.{left_fixed, identity_to}
use Rattle.carrying.proofs.carry.Goals as goal

pub returns-then-st-eq0 : goal.returns-then-st-eq0
unfolding step_with
returns-then-st-eq0 c = (left_fixed _ _ _, λ t h. identity_to h c.if-st-eq0.true refl)
