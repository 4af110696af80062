-- The loop's invariant: the lines of the first i records are printed. Assumes nothing.
use Rattle.model.specs.Listing.{result_line}
use Prim.Native.Nat.{◌≤◌, ◌-◌}
use Rattle.listing_print.specs.Printed.{Printed, joined}
use Rattle.listing_print.specs.Texts.{record_text}
use Rattle.listing_print.proofs.lines.operations.Given as goal

abbrev pub invariant-loop-i : goal.invariant-loop-i
invariant-loop-i l = (l.i ≤ l.count) × Printed l.initial.out l.at (joined (record_text result_line 6 l.s) l.i) l.out l.next

abbrev pub decreases-loop-i : goal.decreases-loop-i
decreases-loop-i l = l.count - l.i
