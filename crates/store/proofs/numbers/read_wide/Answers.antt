-- Both halves are read. Assumes nothing.
use Rattle.store.specs.Wide.{wide_at}
use borrow.Author.Rules.{rules}
use Rattle.store.proofs.numbers.read_wide.Goals as goal

pub returns : goal.returns
unfolding wide_at
returns c = search rules
