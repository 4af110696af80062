-- Absorbed at once; put out where no place is named and reached; else merged. Assumes nothing.
use Rattle.merging.specs.Steps.{absorbed_left}
use Rattle.merging.specs.Taking.{taking_put, taking_place, taking_absorbs, taking_there, take_once, take_out, take_there, put_next}
use Rattle.merging.specs.Taking.{out_left, answer_is}
use native.Mathlib.Omega.{arith}
use Rattle.merging.proofs.take.Goals as goal

pub absorb-requires : goal.absorb-requires
absorb-requires c = record {
  absorption = c.requires.absorption;
  items = c.requires.items;
  pass = c.requires.pass;
  it = taking_absorbs c.requires.it
      c.at_once.ensures c.if-at_once.true;
}

pub returns-then-at_once : goal.returns-then-at_once
returns-then-at_once c = (
  absorbed_left c.absorb.ensures.0,
  λ g n p rules h. answer_is 0 1 (omega arith) (omega arith)
      (c.absorb.ensures.1 _ n p (taking_absorbs h c.at_once.ensures c.if-at_once.true))
      (take_once rules h c.at_once.ensures c.if-at_once.true),
)

pub place_for-requires : goal.place_for-requires
place_for-requires c = taking_place c.requires.it

pub put_out-requires : goal.put_out-requires
put_out-requires c = taking_put c.requires.it

pub returns-in_default : goal.returns-in_default
returns-in_default c = (
  out_left c.put_out.ensures,
  λ g n p rules h. put_next h.mode h.at.holds c.put_out.ensures
      (take_out rules h c.at_once.ensures c.if-at_once.false c.place_for.ensures c.in_default.is),
)

pub merge-requires : goal.merge-requires
merge-requires c = record {
  absorption = c.requires.absorption;
  items = c.requires.items;
  pass = c.requires.pass;
  it = taking_there c.requires.it
      c.place_for.ensures c.in-Some.is;
}

pub returns : goal.returns
returns c = (
  c.merge.ensures.0,
  λ g n p rules h. answer_is 1 1 (omega arith) (omega arith)
      (c.merge.ensures.1 _ n p (taking_there h c.place_for.ensures c.in-Some.is))
      (take_there rules h c.at_once.ensures c.if-at_once.false c.place_for.ensures c.in-Some.is),
)
