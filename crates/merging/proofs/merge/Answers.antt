-- Three cases: the sum is 0, it is absorbed at once, it stays. Assumes nothing.
use mathlib.Core.Path.{◌∙◌}
use Rattle.model.specs.Stream.{count_merge}
use Rattle.merging.specs.Steps.{absorbed_left}
use Rattle.merging.specs.Taking.{merging_entry, merging_zero, merging_id, merge_to_zero, merged_there, merge_at_once, merge_name}
use Rattle.merging.specs.Taking.{merge_sets, merge_left, zero_left_s}
use native.Mathlib.Omega.{arith}
use Rattle.merging.proofs.merge.Goals as goal

pub angle_at-old-requires : goal.angle_at-old-requires
angle_at-old-requires c = merging_entry c.requires.it

pub leave_zero-requires : goal.leave_zero-requires
leave_zero-requires c = merging_zero c.requires.it

pub returns-then-sum-eq0 : goal.returns-then-sum-eq0
returns-then-sum-eq0 c = (
  zero_left_s c.leave_zero.ensures,
  λ m n p h. merge_to_zero h c.angle_at-old.ensures c.if-sum-eq0.true
      c.leave_zero.ensures,
)

pub absorb_merged-requires : goal.absorb_merged-requires
absorb_merged-requires c = record {
  absorption = c.requires.absorption;
  items = c.requires.items;
  pass = count_merge c.requires.pass;
  it = merged_there
      c.requires.it c.angle_at-old.ensures c.if-sum-eq0.false c.at_once.ensures c.if-at_once.true;
}

pub returns-then-at_once : goal.returns-then-at_once
returns-then-at_once c = (
  absorbed_left c.absorb_merged.ensures.0,
  λ m n p h. merge_at_once h c.angle_at-old.ensures c.if-sum-eq0.false
      c.at_once.ensures c.if-at_once.true (c.absorb_merged.ensures.1 m n (count_merge p)
      (merged_there h c.angle_at-old.ensures c.if-sum-eq0.false c.at_once.ensures c.if-at_once.true)),
)

pub overflow_cast-id : goal.overflow_cast-id
overflow_cast-id c = omega (arith, merging_id c.requires.it)

pub put_rotation-requires : goal.put_rotation-requires
put_rotation-requires c = merging_entry c.requires.it

pub name_place-requires : goal.name_place-requires
name_place-requires c =
    merge_name c.requires.it c.angle_at-old.ensures c.if-sum-eq0.false c.at_once.ensures
    c.put_rotation.ensures

pub shape_of-numbers : goal.shape_of-numbers
shape_of-numbers c = c.name_place.ensures.only.long ∙ c.put_rotation.ensures.only.long

pub returns : goal.returns
returns c = (
  merge_left c.put_rotation.ensures c.name_place.ensures,
  λ m n p h. merge_sets h
      c.angle_at-old.ensures c.if-sum-eq0.false c.at_once.ensures c.put_rotation.ensures c.if-at_once.false
      c.name_place.ensures,
)
