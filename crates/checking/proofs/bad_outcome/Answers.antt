-- A plain rotation has no outcome; else the table answers. Assumes nothing.
use Rattle.checking.specs.Outcomes.{outcome_small, rotation_passes, looked_up}
use native.Mathlib.Omega.{arith}
use Rattle.checking.proofs.bad_outcome.Goals as goal

pub returns-then-kind-eq1 : goal.returns-then-kind-eq1
returns-then-kind-eq1 c = λ seen h. rotation_passes seen _ c.if-kind-eq1.true

pub is_entered-before-requires : goal.is_entered-before-requires
is_entered-before-requires c = omega (arith, outcome_small _ c.requires.1 c.if-kind-eq1.false)

pub returns : goal.returns
returns c = λ seen h. looked_up _ _ c.is_entered-before.ensures (outcome_small _ c.requires.1 c.if-kind-eq1.false) h
