-- What a job is lent is within the memory. Assumes nothing.
use Rattle.std.specs.Prelude.{ℕ, ◌≤◌}
use Rattle.jobs.specs.declared.lend.Lent.{Lent}
use Rattle.jobs.specs.declared.lend.Room.{Room}
use Rattle.jobs.specs.declared.lend.Stores.{Stores}

abbrev pub StoresWithin : Stores → Stores → Type 0
StoresWithin s m =
    (s.words ≤ m.words) × (s.numbers ≤ m.numbers) × (s.result_operations ≤ m.result_operations) × (s.result_rows ≤ m.result_rows)

abbrev pub Within : Lent → Room → Type 0
Within l m =
    (l.nodes ≤ m.records) × (l.operations_from ≤ l.operations) × (l.operations ≤ m.records) × (l.rows_from ≤ l.rows)
    × (l.rows ≤ m.records) × StoresWithin l.stores m.stores

-- room for so many records, words, numbers, result operations and result rows
abbrev pub room_of : ℕ → ℕ → ℕ → ℕ → ℕ → Room
room_of r w n o p = record { records = r; stores = record { words = w; numbers = n; result_operations = o; result_rows = p } }
