-- The loop's invariant: the parity of acc is that of the crossed bits so far. Assumes nothing.
use mathlib.Core.Path.{ap, ◌∙◌}
use Prim.Native.Nat.{ℕ, ◌%◌}
use lib.Dec.{eqb}
use Rattle.pauli.specs.Word.{anticommutes}
use Rattle.pauli.proofs.Crosses.{crosses_none, crosses_more, crosses_all}
use native.Mathlib.Omega.{arith}
use Rattle.pauli.proofs.anticommutes.Goals as goal

pub loop-j-init : goal.loop-j-init
loop-j-init c = (omega arith, crosses_none _ _ _)

pub loop-j-preserved : goal.loop-j-preserved
loop-j-preserved c = (omega arith, search crosses_more)

pub returns : goal.returns
unfolding anticommutes
returns c =
    ap (λ (n : ℕ). eqb (n % 2) 1) c.count.ensures.0
    ∙ ap (λ (n : ℕ). eqb n 1) (crosses_all _ _ _ _ _ c.loop-j.invariant.1 (omega arith))
