-- Two copies. Assumes nothing.
use mathlib.Core.Path.{◌∙◌}
use Rattle.exchange.specs.Output.{replace_out, replace_copy, replaced}
use Rattle.exchange.proofs.replace.Goals as goal

pub copy_out-t-requires : goal.copy_out-t-requires
copy_out-t-requires c = replace_out c.requires

pub copy_items-requires : goal.copy_items-requires
copy_items-requires c = replace_copy c.requires c.copy_out-t.ensures

pub shape_of-numbers : goal.shape_of-numbers
shape_of-numbers c = c.copy_items.ensures.only.long ∙ c.copy_out-t.ensures.only.long

pub returns : goal.returns
returns c = replaced c.requires c.copy_out-t.ensures c.copy_items.ensures
