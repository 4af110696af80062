-- The loop's invariant: each bit of the signature is left, or has been raised. Assumes nothing.
use Rattle.bits.specs.SetBits.{places}
use Rattle.depth.specs.Tops.{RaisedTo}
use Rattle.depth.proofs.raise.Given as goal

abbrev pub invariant-loop-k : goal.invariant-loop-k
invariant-loop-k l = RaisedTo l.u l.initial.numbers l.sig l.v (places l.k-iterator.0) l.numbers
