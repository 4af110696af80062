-- No qubit has a slot, and no bit is in the mask. Assumes nothing.
use Rattle.clifford.specs.Beginning.{begin_holds}
use Rattle.store.specs.Part.{zeros_lent}
use native.Mathlib.Omega.{arith}
use Rattle.clifford.proofs.begin.Goals as goal

pub returns : goal.returns
returns c =
    begin_holds c.requires c.mask_at-a.ensures
    (zeros_lent _ _ _ _ (omega (arith, c.requires.words_long, c.mask_at-a.ensures)) (c.fill.ensures.after (λ y h. h)))
    c.clear_row.ensures
