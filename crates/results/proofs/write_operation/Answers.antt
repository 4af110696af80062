-- The item is read, its record made and laid. Assumes nothing.
use Rattle.results.specs.Operations.{operation_laid}
use Rattle.results.proofs.write_operation.Goals as goal

pub returns : goal.returns
returns c =
    operation_laid _ _ _ _ _ _ (rw c.item_at-x.ensures at c.record_of-r.ensures) c.requires.room
    (rw c.fields.ensures at c.put_fields.ensures)
