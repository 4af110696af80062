-- The axis's qubits are touched, then images change. Assumes nothing.
use Rattle.absorbing.specs.Absorbing.{absorb_limit, absorb_turns, absorb_left, absorb_holds}
use Rattle.steps.specs.State.{is_limit}
use Rattle.absorbing.proofs.absorb.Goals as goal

pub returns-in_err-s : goal.returns-in_err-s
returns-in_err-s c = (
  c.touch_all.ensures.0,
  rw (is_limit _ c.from_residual.ensures.0) (absorb_limit c.touch_all.ensures c.in_err-s.was),
)

pub turn-requires : goal.turn-requires
turn-requires c = absorb_turns c.touch_all.ensures c.in_ok-s.was c.requires

pub returns : goal.returns
returns c = (
  absorb_left c.touch_all.ensures c.in_ok-s.was c.turn.ensures c.requires,
  absorb_holds
      c.touch_all.ensures c.in_ok-s.was c.turn.ensures,
)
