-- The loop's invariant: what is left from byte i on, with the number so far, gives the whole; i digits are below 10 ^ i. Assumes nothing.
use mathlib.Core.Path.{◌≡◌}
use Prim.Native.Nat.{◌<◌, ◌^◌}
use Rattle.model.specs.Listing.{digits_from}
use Rattle.listing_fields.specs.Field.{past}
use Rattle.listing_fields.proofs.field.digits.Given as goal

abbrev pub invariant-loop-b : goal.invariant-loop-b
invariant-loop-b l = (digits_from 0 l.f ≡ digits_from l.v (past l.f l.b-index)) × (l.v < 10 ^ l.b-index)
