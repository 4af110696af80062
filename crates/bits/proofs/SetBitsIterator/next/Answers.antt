-- The lowest set bit comes, and is cleared. Assumes nothing.
use Rattle.std.proofs.Common.{◌≡◌, ap, [], length, arith, rules}
use Rattle.bits.specs.SetBits.{places, set_bits_none, places_lowest}
use Rattle.bits.proofs.SetBitsIterator.next.Goals as goal

pub returns-then-self-eq0-clause-steps : goal.returns-then-self-eq0-clause-steps
returns-then-self-eq0-clause-steps c = let e : places c.args.self.now.0 ≡ [] = rw c.if-self-eq0.true (set_bits_none 64 0) in (e, e)

pub returns-clause-steps : goal.returns-clause-steps
returns-clause-steps c = places_lowest _ c.if-self-eq0.false (omega arith)

pub returns-clause-goes : goal.returns-clause-goes
returns-clause-goes c = let e = ap length (places_lowest c.args.self.now.0 c.if-self-eq0.false (omega arith)) in search rules
