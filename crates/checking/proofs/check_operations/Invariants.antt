-- The loop's invariant: what is left to check from operation i on, with the outcomes before it, answers for all, and the table has these
use Prim.Native.Nat.{◌-◌}
use Rattle.model.specs.Checking.{check_operations}
use Rattle.checking.specs.Walk.{LeftFrom}
use Rattle.checking.specs.Outcomes.{Entered, seen_by}
use Rattle.checking.proofs.check_operations.Given as goal

-- outcomes. Assumes nothing.
abbrev pub invariant-loop-i : goal.invariant-loop-i
invariant-loop-i l =
    LeftFrom 6 l.count l.operations (λ j. check_operations l.nodes (seen_by j l.operations)) l.i × Entered (seen_by l.i l.operations) l.table

abbrev pub decreases-loop-i : goal.decreases-loop-i
decreases-loop-i l = l.count - l.i
