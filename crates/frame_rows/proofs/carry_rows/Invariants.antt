-- References j and later are still to be carried. Assumes nothing.
use Prim.Native.Nat.{◌-◌}
use Rattle.frame_rows.specs.FrameRows.{RowsLoop}
use Rattle.frame_rows.proofs.carry_rows.Given as goal

abbrev pub invariant-loop-j : goal.invariant-loop-j
invariant-loop-j l = RowsLoop l.shape l.initial.st l.initial.words l.initial.numbers l.words l.numbers l.st l.j

abbrev pub decreases-loop-j : goal.decreases-loop-j
decreases-loop-j l = l.end - l.j
