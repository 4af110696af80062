-- Two reads. Assumes nothing.
use Rattle.work.specs.Rows.{root_at}
use Rattle.work.proofs.root_at.Goals as goal

pub returns : goal.returns
unfolding root_at
returns c = rw (c.read-axis.ensures, c.read-sign.ensures)
