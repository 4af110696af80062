-- An entry of a row is in the store. Assumes nothing.
use Rattle.std.proofs.Common.{sym}
use Rattle.store.specs.Row.{row_at}
use Rattle.store.proofs.numbers.read.Goals as goal

pub returns : goal.returns
returns c = sym (row_at _ _ _ _ c.requires.2)
