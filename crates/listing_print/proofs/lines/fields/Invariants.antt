-- The loop's invariant: the columns of the fields so far are printed. Assumes nothing.
use Rattle.listing_print.specs.Printed.{Printed, joined}
use Rattle.listing_print.specs.Texts.{column_at}
use Rattle.listing_print.proofs.lines.fields.Given as goal

abbrev pub invariant-loop-n : goal.invariant-loop-n
invariant-loop-n l = Printed l.initial.out l.at (joined (column_at l.ns) l.n-index) l.out l.next
