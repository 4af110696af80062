-- The root is read, its record made and laid. Assumes nothing.
use Rattle.results.specs.Rows.{row_laid}
use Rattle.results.proofs.write_row.Goals as goal

pub returns : goal.returns
returns c =
    row_laid _ c.args.shape _ _ _ _ _ _ _ c.root_at-f.ensures c.row_record-r.ensures
    (rw c.fields.ensures at c.put_fields.ensures)
