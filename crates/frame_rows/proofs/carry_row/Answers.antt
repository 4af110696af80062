-- A reference without an axis stays. Assumes nothing.
use Rattle.steps.specs.State.{is_limit, with_next, with_limit}
use Rattle.stream_states.specs.States.{held_of}
use Rattle.stream_states.specs.Carrying.{carry_pre, carried_small}
use Rattle.frame_rows.specs.FrameRows.{left_none_r, row_past, row_carry, row_sign_lem, row_limit, row_small, row_next, row_left}
use Rattle.frame_rows.specs.FrameRows.{row_put_left}
use native.Mathlib.Omega.{arith}
use Rattle.frame_rows.proofs.carry_row.Goals as goal

pub returns-then-x : goal.returns-then-x
returns-then-x c = (left_none_r _ _ _, λ m n p h. row_past h c.root_at-x.ensures c.if-x.true)

pub carry_held-requires : goal.carry_held-requires
carry_held-requires c = record { state = held_of c.requires.pass; it = carry_pre (row_carry c.requires.it c.root_at-x.ensures c.if-x.false) }

pub returns-in_err-image : goal.returns-in_err-image
returns-in_err-image c = rw (is_limit _ c.from_residual.ensures.0) (
  row_left c.carry_held.ensures.0,
  λ m n p h. row_limit h c.root_at-x.ensures c.if-x.false c.carry_held.ensures
      (with_limit _ c.in_err-image.was),
)

pub overflow_cast-moved : goal.overflow_cast-moved
overflow_cast-moved c =
    let to = with_next c.args.st c.in_ok-image.was c.with_image-to.ensures in
    omega (arith, row_small c.requires.it c.root_at-x.ensures c.if-x.false c.carry_held.ensures to)

pub overflow_add-moved : goal.overflow_add-moved
overflow_add-moved c =
    let to = with_next c.args.st c.in_ok-image.was c.with_image-to.ensures in
    omega (
      arith,
      row_sign_lem c.requires.it c.root_at-x.ensures c.if-x.false,
      carried_small
          (row_carry c.requires.it c.root_at-x.ensures c.if-x.false) c.carry_held.ensures to,
    )

pub put_root-requires : goal.put_root-requires
put_root-requires c = record {
  long = omega (arith, c.requires.it.at.granted.numbers_long, c.carry_held.ensures.0.numbers.long);
  here =
      c.requires.it.here;
}

pub returns : goal.returns
returns c = (
  row_put_left c.carry_held.ensures.0 c.put_root.ensures,
  λ m n p h. row_next h c.root_at-x.ensures
      c.if-x.false c.carry_held.ensures (with_next _ c.in_ok-image.was c.with_image-to.ensures) c.put_root.ensures,
)
