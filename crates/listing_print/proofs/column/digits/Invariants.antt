-- The loop's invariant: the digits behind byte i stand, and with what is left in front of it they give the whole. Assumes nothing.
use mathlib.Core.Path.{◌≡◌}
use mathlib.Core.List.{[]}
use Prim.Native.Nat.{◌≤◌}
use lib.ListN.{length}
use Rattle.model.specs.Listing.{columns, decimal}
use Rattle.listing_print.specs.Columns.{unfinished}
use Rattle.listing_print.proofs.column.digits.Given as goal

abbrev pub invariant-loop-i : goal.invariant-loop-i
invariant-loop-i l = (l.i ≤ columns) × (length l.d ≡ columns) × (decimal columns l.v [] ≡ unfinished l.i l.left l.d)
