-- The loop's invariant: the first i fields stand in `to`, and with what is left of the line they give the whole. Assumes nothing.
use mathlib.Core.Path.{◌≡◌}
use Prim.Native.Nat.{◌≤◌, ◌-◌, ◌*◌}
use lib.ListN.{length}
use Rattle.model.specs.Listing.{columns, fields_from}
use Rattle.listing_fields.specs.Fields.{fields_after}
use Rattle.listing_fields.proofs.fields.Given as goal

abbrev pub invariant-loop-i : goal.invariant-loop-i
invariant-loop-i l =
    (l.i ≤ l.i-end) × (l.i-end ≡ length l.initial.to) × (length l.to ≡ length l.initial.to) × (length l.line ≡ length l.initial.to * columns)
    × (fields_from (length l.initial.to) l.line ≡ fields_after (length l.initial.to) l.line l.i l.to)

abbrev pub decreases-loop-i : goal.decreases-loop-i
decreases-loop-i l = l.i-end - l.i
