-- The loop's invariant: each bit of the signature is left, or has been raised. Assumes nothing.
use Rattle.depth.specs.Tops.{raise_start, raise_pre, raise_turn, raise_end}
use Rattle.depth.proofs.raise.Goals as goal

pub loop-k-init : goal.loop-k-init
loop-k-init c = raise_start c.ranges.sig.fits (cc)

pub raise_one-requires : goal.raise_one-requires
raise_one-requires c = raise_pre c.loop-k.invariant c.requires

pub loop-k-preserved : goal.loop-k-preserved
loop-k-preserved c = raise_turn c.loop-k.invariant c.in-Some.ensures.steps c.raise_one.ensures

pub returns : goal.returns
returns c = raise_end c.loop-k.invariant c.in-None.ensures.steps.0
