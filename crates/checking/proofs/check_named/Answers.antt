-- By its tests. Assumes nothing.
use Rattle.checking.specs.Refusals.{place_outside, place_rotation, place_fine}
use Rattle.checking.proofs.check_named.Goals as goal

pub returns-then-place-count : goal.returns-then-place-count
returns-then-place-count c = place_outside _ _ _ c.if-place-count.true

pub returns-then-operations-at-eq1 : goal.returns-then-operations-at-eq1
returns-then-operations-at-eq1 c = place_rotation _ _ _ c.if-place-count.false c.if-operations-at-eq1.true

pub returns : goal.returns
returns c = place_fine _ _ _ c.if-place-count.false c.if-operations-at-eq1.false
