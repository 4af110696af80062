-- The rows are kept where nothing was absorbed. Assumes nothing.
use Rattle.frame_rows.specs.FrameRows.{left_none_r}
use Rattle.frame_rows.specs.FrameRows.{rows_kept, rows_moved}
use Rattle.frame_rows.proofs.carry_frame.Goals as goal

pub returns-then-st-eq0 : goal.returns-then-st-eq0
returns-then-st-eq0 c = (left_none_r _ _ _, λ m n p h. rows_kept h c.if-st-eq0.true)

pub returns : goal.returns
returns c = (c.carry_rows.ensures.0, λ m n p h. rows_moved h c.if-st-eq0.false (c.carry_rows.ensures.1 m n p h))
