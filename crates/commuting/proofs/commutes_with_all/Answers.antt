-- None of them blocks it. Assumes nothing.
use Rattle.commuting.specs.Blocking.{commutes_by}
use Rattle.commuting.proofs.commutes_with_all.Goals as goal

pub returns : goal.returns
returns c = commutes_by c.first_blocking.ensures
