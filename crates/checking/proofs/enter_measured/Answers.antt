-- The outcome of a measurement is entered; else nothing is written. Assumes nothing.
use Rattle.checking.specs.Outcomes.{outcome_small, not_measured, now_measured}
use native.Mathlib.Omega.{arith}
use Rattle.checking.proofs.enter_measured.Goals as goal

pub returns-then-r-ne2 : goal.returns-then-r-ne2
returns-then-r-ne2 c = λ seen h. not_measured _ c.if-r-ne2.true h

pub enter-requires : goal.enter-requires
enter-requires c = omega (arith, outcome_small _ c.requires.1 (omega arith))

pub returns : goal.returns
returns c = λ seen h. rw c.enter.ensures (now_measured _ c.if-r-ne2.false (outcome_small _ c.requires.1 (omega arith)) h)
