-- It is absorbed first, as the model has it. Assumes nothing.
use Rattle.merging.specs.Taking.{merged_limit_left, merged_limit, merged_zero, merged_left, merged_next}
use Rattle.steps.specs.State.{is_limit}
use Rattle.merging.proofs.absorb_merged.Goals as goal

pub absorb-requires : goal.absorb-requires
absorb-requires c = record { absorption = c.requires.absorption; items = c.requires.items; pass = c.requires.pass; it = c.requires.it.at }

pub returns-in_err-after : goal.returns-in_err-after
returns-in_err-after c = rw (is_limit _ c.from_residual.ensures.0) (merged_limit_left c.absorb.ensures c.in_err-after.was, merged_limit c.absorb.ensures c.in_err-after.was)

pub leave_zero-requires : goal.leave_zero-requires
leave_zero-requires c = merged_zero c.absorb.ensures c.requires

pub returns : goal.returns
returns c = (
  merged_left c.absorb.ensures c.in_ok-after.was c.leave_zero.ensures,
  merged_next c.absorb.ensures
      c.in_ok-after.was c.leave_zero.ensures,
)
