-- An entry of a row is in the store. Assumes nothing.
use Rattle.store.specs.Row.{written}
use Rattle.store.proofs.numbers.write.Goals as goal

pub returns : goal.returns
returns c = written _ _ _ _ _
