-- The bit is read as the table's law has it. Assumes nothing.
use Rattle.checking.specs.Table.{bit_read}
use Rattle.checking.proofs.is_entered.Goals as goal

pub returns : goal.returns
returns c = bit_read _ _
