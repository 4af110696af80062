-- No signature is looked at where a word is one number; else both are read. Assumes nothing.
use mathlib.Core.Path.{ap₂, ◌∙◌}
use Prim.Native.Nat.{ℕ}
use native.Mathlib.Omega.{arith}
use lib.Bits.{bit_and}
use lib.Dec.{eqb}
use Rattle.axes.specs.Beside.{apart_narrow, apart_wide}
use Rattle.axes.proofs.apart.Goals as goal

pub returns-then-z-le1 : goal.returns-then-z-le1
returns-then-z-le1 c = apart_narrow _ _ _ c.if-z-le1.true

pub returns : goal.returns
returns c =
    ap₂ (λ (x y : ℕ). eqb (bit_and x y) 0) c.read_wide.ensures c.read_wide-2.ensures
    ∙ apart_wide _ _ _ (omega (arith, c.if-z-le1.false))
