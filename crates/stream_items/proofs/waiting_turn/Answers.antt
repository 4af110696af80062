-- Three cases: it does not wait, it is left to wait, it is absorbed. Assumes nothing.
use Rattle.model.specs.declared.Absorption.TheVariants.{Off as off}
use Rattle.stream_states.specs.States.{left_none}
use Rattle.merging.specs.Steps.{absorbed_left}
use Rattle.stream_items.specs.Waiting.{turn_read, turn_entry, turn_small, turned_over, turn_held, turn_picks, turned_left, left_kept}
use Rattle.stream_items.specs.Waiting.{turn_merged, turned_absorbed}
use mathlib.Core.Path.{refl}
use native.Mathlib.Omega.{arith}
use Rattle.stream_items.proofs.waiting_turn.Goals as goal

pub read-j-requires : goal.read-j-requires
read-j-requires c = turn_read c.requires.it

pub item_at-x-requires : goal.item_at-x-requires
item_at-x-requires c = turn_entry c.requires.it c.read-j.ensures

pub returns-then-not-waits : goal.returns-then-not-waits
returns-then-not-waits c = (
  left_none _ _ _,
  λ n p h. turned_over h c.read-j.ensures c.item_at-x.ensures c.waits.ensures
      c.if-not-waits.true,
)

pub invariant_of-axes : goal.invariant_of-axes
invariant_of-axes c = record {
  stored = turn_held c.requires.it c.read-j.ensures c.item_at-x.ensures c.waits.ensures c.if-not-waits.false c.sizes_of-z.ensures;
}

pub picks-requires : goal.picks-requires
picks-requires c =
    turn_picks c.requires.it c.read-j.ensures c.item_at-x.ensures c.waits.ensures c.if-not-waits.false
    c.sizes_of-z.ensures

pub overflow_cast-j-then-not-picks : goal.overflow_cast-j-then-not-picks
overflow_cast-j-then-not-picks c = omega (arith, turn_small c.requires.it c.read-j.ensures)

pub write-requires : goal.write-requires
write-requires c = (c.requires.it.at.granted.numbers_long, omega arith, omega (arith, c.requires.it.kept, c.requires.it.index))

pub overflow_add-result : goal.overflow_add-result
overflow_add-result c = omega (arith, c.requires.it.kept, c.requires.it.index, c.requires.it.at.granted.sized.u_small)

pub returns-then-not-picks : goal.returns-then-not-picks
returns-then-not-picks c = (
  left_kept c.requires.it c.read-j.ensures c.item_at-x.ensures c.waits.ensures c.if-not-waits.false
      c.sizes_of-z.ensures c.write.ensures,
  λ n p h. turned_left h c.read-j.ensures c.item_at-x.ensures
      c.waits.ensures c.if-not-waits.false c.sizes_of-z.ensures c.picks.ensures
      c.if-not-picks.true c.write.ensures refl,
)

pub absorb_place-requires : goal.absorb_place-requires
absorb_place-requires c = record {
  absorption = off;
  items = c.requires.items;
  pass = c.requires.pass;
  it = turn_merged c.requires.it c.read-j.ensures
      c.item_at-x.ensures c.waits.ensures c.if-not-waits.false;
}

pub returns : goal.returns
returns c = (
  absorbed_left c.absorb_place.ensures.0,
  λ n p h. turned_absorbed h c.read-j.ensures c.item_at-x.ensures
      c.waits.ensures c.if-not-waits.false c.sizes_of-z.ensures c.picks.ensures c.if-not-picks.false c.absorb_place.ensures.0 (c.absorb_place.ensures.1 off n p
      (turn_merged h c.read-j.ensures c.item_at-x.ensures c.waits.ensures c.if-not-waits.false)),
)
