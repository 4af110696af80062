-- What `relevance` demands and leaves. Assumes nothing.
use Rattle.std.specs.Prelude.{List, [], ◌∷◌, ℕ, ◌*◌, ◌≤◌, length}
use Rattle.layout.specs.declared.Shape.{Shape}
use Rattle.layout.specs.Rows.{row_count, mark, acted, relevant_row}
use Rattle.layout.specs.Only.{Only}
use Rattle.layout.specs.Shape.{Sized}
use Rattle.records.specs.Given.{program_in, Given}
use Rattle.packing_states.specs.NodeRows.{TellsRelevant}

-- the nodes and operations are those of a program that Checking passed, whichever its frame rows are
pub record RelevancePre (z : Shape) (ns os xs : List ℕ) : Type 0 where
  pub sized : Sized z
  pub rows : List ℕ
  pub given : Given z ns os rows
  pub numbers_long : row_count * z.u ≤ length xs

-- the rows that it writes
abbrev pub relevance_rows : List ℕ
relevance_rows = mark ∷ acted ∷ relevant_row ∷ []

-- row RELEVANT tells the relevant nodes, which are the same for all frame rows
pub record Relevance (z : Shape) (ns os s t : List ℕ) : Type 0 where
  pub only : Only relevance_rows z.u s t
  pub tells : (rs : List ℕ) → TellsRelevant (program_in z ns os rs) z t
