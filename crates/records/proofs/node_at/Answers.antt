-- node_at reads the five fields from n * 5 on; every read is in range by what it requires. Assumes nothing.
use Rattle.records.specs.Numbers.{node_numbers}
use borrow.Author.Rules.{rules}
use Rattle.records.proofs.node_at.Goals as goal

pub returns : goal.returns
unfolding node_numbers
returns c = search rules
