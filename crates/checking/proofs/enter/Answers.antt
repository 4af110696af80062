-- One bit is set. Assumes nothing.
use Rattle.checking.specs.Table.{bit_set}
use Rattle.checking.proofs.enter.Goals as goal

pub returns : goal.returns
returns c = bit_set _ _
