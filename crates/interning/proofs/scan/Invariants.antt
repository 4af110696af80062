-- The loop's invariant: none of the first id axes is w. Assumes nothing.
use Rattle.std.proofs.Common.{◌-◌, ◌≤◌}
use Rattle.model.specs.Words.{id_of}
use Rattle.axes.specs.View.{axes_of}
use Rattle.interning.proofs.scan.Given as goal

abbrev pub invariant-loop-id : goal.invariant-loop-id
invariant-loop-id l = (l.id ≤ l.axes) × (l.id ≤ id_of (axes_of l.l l.axes l.words) l.w)

abbrev pub decreases-loop-id : goal.decreases-loop-id
decreases-loop-id l = l.axes - l.id
