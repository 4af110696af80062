-- What an answer about a field or a line says in the model's words. Assumes nothing.
use Rattle.std.specs.Prelude.{Bool, true, false, not, ◌&&◌, ◌||◌, List, [], ◌∷◌, ◌++◌, ℕ, eqb, take, Result, Ok, Err}
use Rattle.std.proofs.Math.Option.{Option, none, some}
use Rattle.model.specs.Lists.{when◌then◌else◌}
use Rattle.model.specs.Program.{field_of, minus_one}
use Rattle.model.specs.Listing.{plain_line, operation_line, to16, fits16}
use Rattle.listing_fields.specs.declared.BadText.{BadText}

-- what a field holds, if it is a number
abbrev pub value_of : Result ℕ BadText → Option ℕ
value_of (Ok v) = some v
value_of (Err e) = none

-- whether it went well, and what the slice holds then; a slice after a refusal says nothing
abbrev pub values_of : Result Unit BadText → List ℕ → Option (List ℕ)
values_of (Ok done) vs = some vs
values_of (Err e) vs = none

-- what a record's fields must be: an operation's, or any other's
abbrev pub fits_of : Bool → List ℕ → Option (List ℕ)
fits_of true = operation_line
fits_of false = plain_line

-- an operation's fields with outcome and target as the records have them: what `operationLine` does where the first four are not -1
unfoldable pub outcome_and_target : List ℕ → Option (List ℕ)
outcome_and_target r =
    when not (fits16 (field_of r 4)) || not (fits16 (field_of r 5)) || (eqb (field_of r 4) minus_one && not (eqb (field_of r 0) 1)) then none
    else some (take 4 r ++ (to16 (field_of r 4) ∷ to16 (field_of r 5) ∷ []))
