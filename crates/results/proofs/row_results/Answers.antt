-- The rows, then zeros. Assumes nothing.
use native.Mathlib.Omega.{arith}
use mathlib.Core.Path.{refl}
use Rattle.results.specs.Zeros.{zeroed_lent}
use Rattle.results.specs.Rows.{rows_written}
use Rattle.results.proofs.row_results.Goals as goal

pub returns : goal.returns
returns c =
    rows_written _ _ _ c.requires c.write_rows.ensures (zeroed_lent _ _ _ _ refl (omega arith) (c.fill.ensures.after (λ y h. h)))
