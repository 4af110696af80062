-- row_at reads the four fields from i * 4 on; every read is in range by what it requires. Assumes nothing.
use Rattle.records.specs.Records.{row_record}
use borrow.Author.Rules.{rules}
use Rattle.records.proofs.row_at.Goals as goal

pub returns : goal.returns
unfolding row_record
returns c = search rules
