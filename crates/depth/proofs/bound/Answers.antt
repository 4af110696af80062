-- The loop's invariant: each bit of the signature is left, or has no higher level than the most so far. Assumes nothing.
use Rattle.depth.specs.Tops.{bits_first, bound_turn, bound_end}
use Rattle.depth.proofs.bound.Goals as goal

pub loop-k-init : goal.loop-k-init
loop-k-init c = bits_first c.ranges.sig.fits (cc)

pub loop-k-preserved : goal.loop-k-preserved
loop-k-preserved c = bound_turn _ _ c.in-Some.ensures.steps c.loop-k.invariant c.top_of.ensures c.max-most.ensures

pub returns : goal.returns
returns c = bound_end _ _ c.in-None.ensures.steps.0 c.loop-k.invariant c.min.ensures
