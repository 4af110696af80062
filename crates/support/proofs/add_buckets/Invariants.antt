-- The loop's invariant: what is gathered, and the buckets of the places that are left, are the result. Assumes nothing.
use Rattle.std.proofs.Common.{◌≡◌}
use Rattle.std.specs.Int.Bits.{bit_or}
use Rattle.bits.specs.SetBits.{places}
use Rattle.pauli.specs.SupportLaws.{buckets_of}
use Rattle.support.proofs.Turns.{buckets_in}
use Rattle.support.proofs.add_buckets.Given as goal

abbrev pub invariant-loop-place : goal.invariant-loop-place
invariant-loop-place l = bit_or l.s (buckets_in l.l l.j (places l.place-iterator.0)) ≡ bit_or l.sig (buckets_of l.l l.j l.w 64)
