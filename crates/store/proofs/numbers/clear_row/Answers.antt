-- The part of row r that is lent comes back as zeros. Assumes nothing.
use Rattle.store.specs.Row.{row_in}
use Rattle.store.specs.Part.{zeros_lent}
use native.Mathlib.Omega.{arith}
use Rattle.store.proofs.numbers.clear_row.Goals as goal

pub returns : goal.returns
returns c = zeros_lent _ _ _ _ (omega (arith, row_in c.args.u 24 c.args.r c.requires.1)) (c.fill.ensures.after (λ y h. h))
