-- Those that block it first; then it is carried and taken. Assumes nothing.
use Rattle.stream_states.specs.States.{left_then}
use Rattle.stream_items.specs.Items.{unblock_there, unblocked_carrying, rotation_next, rotation_limit}
use Rattle.steps.specs.State.{is_limit}
use Rattle.stream_items.proofs.rotation.Goals as goal

pub unblock-requires : goal.unblock-requires
unblock-requires c = record {
  absorption = c.requires.absorption;
  items = c.requires.items;
  pass = c.requires.pass;
  it = unblock_there c.requires.it;
}

pub returns-in_err-s : goal.returns-in_err-s
returns-in_err-s c = rw (is_limit _ c.from_residual.ensures.0) (
  c.unblock.ensures.0,
  λ g n p rules h. rotation_limit c.args.shape c.args.rules g c.args.st c.args.a c.args.angle p
      (c.unblock.ensures.1 _ n p (unblock_there h)) c.in_err-s.was,
)

pub carry_and_take-requires : goal.carry_and_take-requires
carry_and_take-requires c = record {
  absorption = c.requires.absorption;
  items = c.requires.items;
  pass = _;
  it =
      unblocked_carrying c.requires.it c.unblock.ensures.0
      (c.unblock.ensures.1 _ _ _ (unblock_there c.requires.it)) c.in_ok-s.was;
}

pub returns : goal.returns
returns c = (
  left_then c.unblock.ensures.0 c.carry_and_take.ensures.0,
  λ g n p rules h.
      let first = c.unblock.ensures.1 _ n p (unblock_there h) in
      rotation_next c.args.shape c.args.rules g c.args.st c.args.a c.args.angle p first
      c.in_ok-s.was
      (c.carry_and_take.ensures.1 g n _ rules (unblocked_carrying h c.unblock.ensures.0 first c.in_ok-s.was)),
)
