-- One copy. Assumes nothing.
use Rattle.exchange.specs.Output.{copy_pre, copied_out}
use Rattle.exchange.proofs.copy_out.Goals as goal

pub copy_items-requires : goal.copy_items-requires
copy_items-requires c = copy_pre c.requires

pub shape_of-numbers : goal.shape_of-numbers
shape_of-numbers c = c.copy_items.ensures.only.long

pub returns : goal.returns
returns c = copied_out _ c.copy_items.ensures
