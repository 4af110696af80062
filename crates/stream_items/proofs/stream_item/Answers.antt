-- A rotation, or a barrier behind all that wait. Assumes nothing.
use Rattle.stream_states.specs.States.{left_then}
use Rattle.stream_items.specs.Loop.{item_rotation, item_all, same_out, item_barrier, item_as_rotation, item_limit, item_as_barrier}
use Rattle.steps.specs.State.{is_limit}
use Rattle.stream_items.proofs.stream_item.Goals as goal

pub rotation-requires : goal.rotation-requires
rotation-requires c = record { absorption = c.requires.absorption; items = c.requires.items; pass = c.requires.pass; it = item_rotation c.requires.it c.if-x-eq0.true }

pub returns-then-x-eq0 : goal.returns-then-x-eq0
returns-then-x-eq0 c = (
  c.rotation.ensures.0,
  λ g n p rules h. item_as_rotation c.args.shape c.args.rules g c.args.st
      c.args.x p c.if-x-eq0.true (c.rotation.ensures.1 g n p rules (item_rotation h c.if-x-eq0.true)),
)

pub absorb_all-requires : goal.absorb_all-requires
absorb_all-requires c = record { absorption = c.requires.absorption; items = c.requires.items; pass = c.requires.pass; it = item_all c.requires.it }

pub returns-in_err-s : goal.returns-in_err-s
returns-in_err-s c = rw (is_limit _ c.from_residual.ensures.0) (
  c.absorb_all.ensures.0,
  λ g n p rules h. item_limit c.args.shape c.args.rules g c.args.st
      c.args.x p c.if-x-eq0.false (c.absorb_all.ensures.1 _ n p (item_all h)) c.in_err-s.was,
)

pub put_barrier-requires : goal.put_barrier-requires
put_barrier-requires c = record {
  absorption = c.requires.absorption;
  items = c.requires.items;
  pass = _;
  it = item_barrier c.requires.it c.absorb_all.ensures.0
      (c.absorb_all.ensures.1 _ _ _ (item_all c.requires.it)) c.in_ok-s.was c.if-x-eq0.false;
}

pub returns : goal.returns
returns c = (
  left_then c.absorb_all.ensures.0 c.put_barrier.ensures.0,
  λ g n p rules h. let first =
      c.absorb_all.ensures.1 _ n p (item_all h) in item_as_barrier c.args.shape c.args.rules g
      c.args.st
      c.args.x p c.if-x-eq0.false first c.in_ok-s.was
      (same_out h c.absorb_all.ensures.0 first c.in_ok-s.was)
      (c.put_barrier.ensures.1 _ n _
      (item_barrier h c.absorb_all.ensures.0 first c.in_ok-s.was c.if-x-eq0.false)),
)
