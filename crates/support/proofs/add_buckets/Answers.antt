-- The loop's invariant: what is gathered, and the buckets of the places that are left, are the result. Assumes nothing.
use Rattle.std.proofs.Common.{arith}
use Rattle.bits.specs.SetBits.{set_bits_lt}
use Rattle.support.proofs.Turns.{turn_bucket, bits_none, bit_more, bits_all}
use Rattle.support.proofs.add_buckets.Goals as goal

pub loop-place-init : goal.loop-place-init
loop-place-init c = bits_none _ _ _ _ _ (cc) (omega arith)

pub overflow_add-q : goal.overflow_add-q
overflow_add-q c = omega (arith, set_bits_lt 64 0 _ _ _ c.in-Some.ensures.steps)

pub overflow_shl-s : goal.overflow_shl-s
overflow_shl-s c = turn_bucket _ _ _ _ _ c.in-Some.ensures.steps c.requires.0

pub loop-place-preserved : goal.loop-place-preserved
loop-place-preserved c = bit_more _ _ _ _ _ _ _ c.in-Some.ensures.steps c.requires.0 c.loop-place.invariant

pub returns : goal.returns
returns c = bits_all _ _ _ _ _ c.in-None.ensures.steps.0 c.loop-place.invariant
