-- The loop's invariant: each bit of the signature is left, or has no higher level than the most so far. Assumes nothing.
use Rattle.bits.specs.SetBits.{places}
use Rattle.depth.specs.Tops.{BitsLeft, LowerThan}
use Rattle.depth.proofs.bound.Given as goal

abbrev pub invariant-loop-k : goal.invariant-loop-k
invariant-loop-k l = BitsLeft (LowerThan l.u l.numbers l.most) l.sig (places l.k-iterator.0)
