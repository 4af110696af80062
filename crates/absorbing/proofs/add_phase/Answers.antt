-- The old phase is reduced, so that the sum is small. Assumes nothing.
use Rattle.absorbing.specs.Turning.{phase_added}
use Rattle.absorbing.proofs.add_phase.Goals as goal

pub returns : goal.returns
returns c = phase_added _ c.read-old.ensures c.write.ensures
