-- operation_at reads the six fields from i * 6 on; every read is in range by what it requires. Assumes nothing.
use Rattle.records.specs.Numbers.{operation_numbers}
use borrow.Author.Rules.{rules}
use Rattle.records.proofs.operation_at.Goals as goal

pub returns : goal.returns
unfolding operation_numbers
returns c = search rules
