-- The loop's invariant: the turns of the first j numbers of each plane are summed. Assumes nothing.
use Prim.Native.Nat.{◌-◌}
use Rattle.product.proofs.Phase.{Reading}
use Rattle.product.proofs.read.product_phase.Given as goal

abbrev pub invariant-loop-j : goal.invariant-loop-j
invariant-loop-j l = Reading l.l l.p l.q l.ones l.twos l.j

abbrev pub decreases-loop-j : goal.decreases-loop-j
decreases-loop-j l = l.l - l.j
