-- The four cases. Assumes nothing.
use Rattle.trial.specs.Plain.{meet_zero, meet_here, meet_blocked, meet_further}
use Rattle.trial.proofs.meet.Goals as goal

pub returns-then-y-eq0 : goal.returns-then-y-eq0
returns-then-y-eq0 c = meet_zero _ _ _ _ c.if-y-eq0.true

pub returns-then-y-x : goal.returns-then-y-x
returns-then-y-x c = meet_here _ _ _ _ c.if-y-eq0.false c.if-y-x.true

pub returns-then-anticommute : goal.returns-then-anticommute
returns-then-anticommute c =
    meet_blocked _ _ _ _ c.if-y-eq0.false c.if-y-x.false
    c.anticommute.ensures c.if-anticommute.true

pub returns : goal.returns
returns c =
    meet_further _ _ _ _ c.if-y-eq0.false c.if-y-x.false
    c.anticommute.ensures c.if-anticommute.false
