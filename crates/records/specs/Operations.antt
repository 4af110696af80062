-- The operations in their slice, as the model's list and as records. Assumes nothing.
use Rattle.std.specs.Prelude.{◌≡◌, List, map, ℕ, ◌<◌, length}
use Rattle.store.specs.Chunk.{chunks}
use Rattle.model.specs.Program.{Operation, operation_of}
use Rattle.model.specs.Results.{operation_at}
use Rattle.theory.specs.Checked.{records_length}
use Rattle.records.specs.Records.{operation_record, operation_said, operation_said_lem}

-- the first count operations of the slice
unfoldable pub operations_in : ℕ → List ℕ → List Operation
operations_in count os = map operation_of (chunks 6 count os)

-- operation i as its record says it
abbrev pub operation_here : List ℕ → ℕ → Operation
operation_here os i = operation_said (operation_record os i)

-- they are as many
pub operations_count : (count : ℕ) (os : List ℕ) → length (operations_in count os) ≡ count
unfolding operations_in
operations_count count os = records_length operation_of 6 count os

-- operation i is what record i says
pub operation_here_lem : (count : ℕ) (os : List ℕ) (i : ℕ) → i < count → operation_at (operations_in count os) i ≡ operation_here os i
unfolding operations_in
operation_here_lem count os i h = operation_said_lem count os i h
