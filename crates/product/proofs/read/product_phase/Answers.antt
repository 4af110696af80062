-- The loop's invariant: the turns of the first j numbers of each plane are summed. Assumes nothing.
use native.Mathlib.Omega.{arith}
use Rattle.product.proofs.Phase.{read_none, read_more, read_all}
use Rattle.product.proofs.read.product_phase.Goals as goal

pub loop-j-init : goal.loop-j-init
loop-j-init c = read_none _ _ _

pub loop-j-preserved : goal.loop-j-preserved
loop-j-preserved c = read_more _ _ _ _ _ _ c.loop-j.invariant c.loop-j-test.true

pub returns : goal.returns
returns c =
    let loop = c.loop-j in
    read_all _ _ _ _ _ _ loop.invariant (omega arith) (omega (arith, c.count.ensures.0, c.count-2.ensures.0))
