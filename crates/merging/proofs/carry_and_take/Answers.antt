-- The image is taken, or its word is refused. Assumes nothing.
use Rattle.steps.specs.State.{is_limit, with_next, with_limit}
use Rattle.stream_states.specs.States.{left_then}
use Rattle.stream_states.specs.Carrying.{carry_left}
use Rattle.merging.specs.Carried.{carrying_some, carried_limit, taking_there, taken_as}
use Rattle.merging.proofs.carry_and_take.Goals as goal

pub carry-requires : goal.carry-requires
carry-requires c = carrying_some c.requires

pub returns-in_err-image : goal.returns-in_err-image
returns-in_err-image c = rw (is_limit _ c.from_residual.ensures.0) (
  carry_left c.requires.it.carry c.carry.ensures,
  λ g n p rules h. carried_limit c.carry.ensures h
      (with_limit _ c.in_err-image.was) g _ _ _,
)

pub take-requires : goal.take-requires
take-requires c =
    let to = with_next c.args.st c.in_ok-image.was c.with_image-s.ensures in
    record {
      absorption = c.requires.absorption;
      items = c.requires.items;
      pass = _;
      it = taking_there c.carry.ensures c.requires.it to
          c.with_sign-k.ensures;
    }

pub returns : goal.returns
returns c =
    let to = with_next c.args.st c.in_ok-image.was c.with_image-s.ensures in (
      left_then (carry_left c.requires.it.carry c.carry.ensures) c.take.ensures.0,
      λ g n p rules h. taken_as
          c.carry.ensures h to c.with_sign-k.ensures g _
          (c.take.ensures.1 g n _ rules (taking_there c.carry.ensures h to c.with_sign-k.ensures)),
    )
