-- Merged, without zeros, compared. Assumes nothing.
use Rattle.trial.specs.Trying.{improved}
use Rattle.trial.proofs.improves.Goals as goal

pub returns : goal.returns
returns c = rw c.then_some.ensures (improved c.requires c.merge_trial.ensures c.drop_zeros-n.ensures _ c.better.ensures)
