-- The loop's invariant: the lines of the axes below id are printed. Assumes nothing.
use Prim.Native.Nat.{◌≤◌, ◌-◌}
use Rattle.listing_print.specs.Printed.{Printed, joined}
use Rattle.listing_print.specs.Texts.{axis_text}
use Rattle.listing_print.proofs.letters.axes.Given as goal

abbrev pub invariant-loop-id : goal.invariant-loop-id
invariant-loop-id l =
    (l.id ≤ l.count) × Printed l.initial.out l.at (joined (axis_text l.l l.words) l.id) l.out l.next

abbrev pub decreases-loop-id : goal.decreases-loop-id
decreases-loop-id l = l.count - l.id
