-- What `prepare` demands, and what it leaves in the number store: links and use counts. Assumes nothing.
use Rattle.std.specs.Prelude.{◌≡◌, List, ℕ, ◌*◌, ◌≤◌, length}
use Rattle.model.specs.Roots.{roots}
use Rattle.model.specs.Packing.{use_counts}
use Rattle.layout.specs.declared.Shape.{Shape}
use Rattle.layout.specs.Rows.{row_count, uses_row, entries}
use Rattle.layout.specs.Only.{Only}
use Rattle.layout.specs.Shape.{Sized}
use Rattle.records.specs.Given.{program_in, Given}
use Rattle.packing_states.specs.Linked.{Linked}
use Rattle.packing_states.specs.NodeRows.{TellsRelevant}
use Rattle.roots.specs.Links.{link_rows}

-- the program is one that Checking passed, the number store has its rows, and row RELEVANT tells the relevant nodes
pub record PreparePre (z : Shape) (ns os rs xs : List ℕ) : Type 0 where
  pub sized : Sized z
  pub given : Given z ns os rs
  pub numbers_long : row_count * z.u ≤ length xs
  pub tells : TellsRelevant (program_in z ns os rs) z xs

-- each node's roots are linked and each node's uses counted, as the model counts them
pub record Prepared (z : Shape) (ns os rs s t : List ℕ) : Type 0 where
  pub only : Only link_rows z.u s t
  pub linked : Linked (program_in z ns os rs) z t
  pub uses : entries t z.u uses_row z.nodes ≡ use_counts (program_in z ns os rs).nodes (roots (program_in z ns os rs))
