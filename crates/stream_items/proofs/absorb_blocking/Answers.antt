-- The axis is carried to see which block it. Assumes nothing.
use Rattle.model.specs.declared.Absorption.TheVariants.{Lazy as lazy}
use Rattle.steps.specs.State.{is_limit, with_next, with_limit}
use Rattle.stream_states.specs.States.{held_of, left_then}
use Rattle.stream_states.specs.Carrying.{carry_pre, carry_left}
use Rattle.stream_items.specs.Items.{blocked_limit, wait_there, blocked_as}
use Rattle.stream_items.proofs.absorb_blocking.Goals as goal

pub carry-requires : goal.carry-requires
carry-requires c = record { state = held_of c.requires.pass; it = carry_pre c.requires.it.carry }

pub returns-in_err-image : goal.returns-in_err-image
returns-in_err-image c = rw (is_limit _ c.from_residual.ensures.0) (
  carry_left c.requires.it.carry c.carry.ensures,
  λ n p h. blocked_limit c.carry.ensures h
      (with_limit _ c.in_err-image.was),
)

pub absorb_waiting-requires : goal.absorb_waiting-requires
absorb_waiting-requires c =
    let to = with_next c.args.st c.in_ok-image.was c.with_image-s.ensures in
    record { absorption = lazy; items = c.requires.items; pass = _; it = wait_there c.carry.ensures c.requires.it to }

pub returns : goal.returns
returns c =
    let to = with_next c.args.st c.in_ok-image.was c.with_image-s.ensures in (
      left_then (carry_left c.requires.it.carry c.carry.ensures) c.absorb_waiting.ensures.0,
      λ n p h.
          blocked_as c.carry.ensures h to
          (c.absorb_waiting.ensures.1 n _ (wait_there c.carry.ensures h to)),
    )
