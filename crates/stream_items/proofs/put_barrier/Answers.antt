-- It is carried, and put out behind all that was. Assumes nothing.
use Rattle.steps.specs.State.{is_limit, with_next, with_limit}
use Rattle.stream_states.specs.States.{held_of}
use Rattle.stream_states.specs.Carrying.{carry_pre, carry_left, carried_small}
use Rattle.stream_items.specs.Items.{barrier_limit, barrier_entry, barrier_small, barrier_left, barrier_next}
use native.Mathlib.Omega.{arith}
use Rattle.stream_items.proofs.put_barrier.Goals as goal

pub carry-requires : goal.carry-requires
carry-requires c = record { state = held_of c.requires.pass; it = carry_pre c.requires.it.carry }

pub returns-in_err-image : goal.returns-in_err-image
returns-in_err-image c = rw (is_limit _ c.from_residual.ensures.0) (
  carry_left c.requires.it.carry c.carry.ensures,
  λ m n p h. barrier_limit c.carry.ensures h
      (with_limit _ c.in_err-image.was),
)

pub overflow_cast-moved : goal.overflow_cast-moved
overflow_cast-moved c = omega (arith, barrier_small c.carry.ensures c.requires.it (with_next _ c.in_ok-image.was c.with_image-to.ensures))

pub overflow_add-moved : goal.overflow_add-moved
overflow_add-moved c =
    let to = with_next c.args.st c.in_ok-image.was c.with_image-to.ensures in
    omega (arith, carried_small c.requires.it.carry c.carry.ensures to, c.requires.it.sign)

pub put_item-requires : goal.put_item-requires
put_item-requires c = barrier_entry c.carry.ensures c.requires.it (with_next _ c.in_ok-image.was c.with_image-to.ensures)

pub overflow_add-result : goal.overflow_add-result
overflow_add-result c = omega (arith, barrier_small c.carry.ensures c.requires.it (with_next _ c.in_ok-image.was c.with_image-to.ensures))

pub overflow_add-result-2 : goal.overflow_add-result-2
overflow_add-result-2 c = omega (arith, barrier_small c.carry.ensures c.requires.it (with_next _ c.in_ok-image.was c.with_image-to.ensures))

pub returns : goal.returns
returns c = (
  barrier_left c.carry.ensures c.requires.it (with_next _ c.in_ok-image.was c.with_image-to.ensures) c.put_item.ensures,
  λ m n p h. barrier_next
      c.carry.ensures h (with_next _ c.in_ok-image.was c.with_image-to.ensures) c.put_item.ensures,
)
