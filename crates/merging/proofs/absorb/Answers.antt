-- F changes; the output stays. Assumes nothing.
use Rattle.merging.specs.Steps.{absorb_some, f_limit, f_next, absorbed_limit, absorbed_next}
use native.Mathlib.Omega.{arith}
use Rattle.steps.specs.State.{is_limit}
use Rattle.merging.proofs.absorb.Goals as goal

pub absorb-requires : goal.absorb-requires
absorb-requires c = absorb_some c.requires

pub returns-in_err-after : goal.returns-in_err-after
returns-in_err-after c = rw (is_limit _ c.from_residual.ensures.0) (f_limit c.absorb.ensures.0, λ m n p h. absorbed_limit c.absorb.ensures h c.in_err-after.was)

pub overflow_add-result : goal.overflow_add-result
overflow_add-result c = omega (arith, c.requires.it.few)

pub returns : goal.returns
returns c = (
  f_next c.absorb.ensures c.requires.it c.in_ok-after.was,
  λ m n p h. absorbed_next c.absorb.ensures h
      c.in_ok-after.was,
)
