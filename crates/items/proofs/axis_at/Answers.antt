-- The axis stands in its row. Assumes nothing.
use Rattle.items.specs.View.{tagged_at}
use borrow.Author.Rules.{rules}
use Rattle.items.proofs.axis_at.Goals as goal

pub returns : goal.returns
unfolding tagged_at
returns c = search rules
