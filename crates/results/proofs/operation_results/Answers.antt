-- The records, then zeros. Assumes nothing.
use native.Mathlib.Omega.{arith}
use mathlib.Core.Path.{refl}
use Rattle.results.specs.Zeros.{zeroed_lent}
use Rattle.results.specs.Operations.{results_written}
use Rattle.results.proofs.operation_results.Goals as goal

pub returns : goal.returns
returns c =
    results_written c.requires c.write_operations.ensures (zeroed_lent _ _ _ _ refl (omega arith) (c.fill.ensures.after (λ y h. h)))
