-- Linking: what its functions demand of the number store and leave in it. Assumes nothing.
use Rattle.std.specs.Prelude.{◌≡◌, List, [], ◌∷◌, ℕ, suc, ◌+◌, ◌*◌, ◌≤◌, ◌<◌, length, get_or, set}
use Rattle.store.specs.Row.{row}
use Rattle.model.specs.Program.{Program}
use Rattle.model.specs.Roots.{roots}
use Rattle.model.specs.Packing.{one_use_more}
use Rattle.layout.specs.declared.Shape.{Shape}
use Rattle.layout.specs.Rows.{row_count, relevant_row, uses_row, first_root, next_root, root_axis, root_sign, no_axis, entries}
use Rattle.layout.specs.Only.{Only}
use Rattle.layout.specs.Shape.{Sized}
use Rattle.records.specs.Records.{operation_record, row_record}
use Rattle.packing_states.specs.References.{reference_at, total}
use Rattle.packing_states.specs.ReferenceLaws.{roots_from}
use Rattle.packing_states.specs.Counts.{root_counts}
use Rattle.packing_states.specs.Linked.{LinkedFrom, Linked}
use Rattle.packing_states.specs.ReferenceRows.{ReferenceRows, reference_rows}
use Rattle.packing_states.specs.InMemory.{OfShape}
use Rattle.packing_states.specs.NodeRows.{TellsRelevant}

-- ---- one reference

-- both have their entries, and j + 1 fits 32 bits
pub record FrontPre (s : List ℕ) (u j n : ℕ) : Type 0 where
  pub long : row_count * u ≤ length s
  pub small : j < 4294967295
  pub root : j < u
  pub node : n < u
  pub uses : get_or (row s u uses_row) n 0 < 4294967295

-- the rows that a root's turn writes
abbrev pub front_rows : List ℕ
front_rows = uses_row ∷ first_root ∷ next_root ∷ []

-- root j stands in front of node n's other roots, and uses the node
pub record InFront (s : List ℕ) (u j n : ℕ) (t : List ℕ) : Type 0 where
  pub only : Only front_rows u s t
  pub next : row t u next_root ≡ set (row s u next_root) j (get_or (row s u first_root) n 0)
  pub first : row t u first_root ≡ set (row s u first_root) n (suc j)
  pub uses : row t u uses_row ≡ one_use_more n (row s u uses_row)

-- reference j, which is no root, has no axis
abbrev pub NoRoot : List ℕ → ℕ → ℕ → List ℕ → Type 0
NoRoot s u j t = ReferenceRows reference_rows u j no_axis 0 s t

-- reference i is operation i of the records
pub record OperationPre (os s : List ℕ) (u i : ℕ) : Type 0 where
  pub record_long : i * 6 + 6 ≤ length os
  pub front : FrontPre s u i (operation_record os i).node

-- the rows that any reference's turn writes
abbrev pub link_rows : List ℕ
link_rows = uses_row ∷ first_root ∷ next_root ∷ root_axis ∷ root_sign ∷ []

-- reference j is frame row r of the records
pub record RowPre (rs s : List ℕ) (u j r : ℕ) : Type 0 where
  pub record_long : r * 4 + 4 ≤ length rs
  pub front : FrontPre s u j (row_record rs r).node

-- reference j is a frame row at node n: a root if the node is relevant
pub record RowLinked (s : List ℕ) (u j n : ℕ) (t : List ℕ) : Type 0 where
  pub only : Only link_rows u s t
  pub root : (get_or (row s u relevant_row) n 0 ≡ 0 → ⊥) → InFront s u j n t
  pub no_root : get_or (row s u relevant_row) n 0 ≡ 0 → NoRoot s u j t

-- ---- the references from j on

-- they are linked, and for each node its roots among them counted
pub record LinksFrom (p : Program) (z : Shape) (j : ℕ) (t : List ℕ) : Type 0 where
  pub linked : LinkedFrom p z j t
  pub uses : (n : ℕ) → n < z.nodes → get_or (row t z.u uses_row) n 0 ≡ roots_from p n j

-- the program has these sizes, and the number store has its rows
pub record Sizes (p : Program) (z : Shape) (s : List ℕ) : Type 0 where
  pub sized : Sized z
  pub long : row_count * z.u ≤ length s
  pub program : OfShape p z

-- its operations are these records
pub record OperationsIn (p : Program) (z : Shape) (os : List ℕ) : Type 0 where
  pub long : z.operations * 6 ≤ length os
  pub node : (i : ℕ) → i < z.operations → (reference_at p i).node ≡ (operation_record os i).node

-- its frame rows are these records, and which of them are roots stands in the number store
pub record RowsIn (p : Program) (z : Shape) (rs s : List ℕ) : Type 0 where
  pub long : 2 * z.qubits * 4 ≤ length rs
  pub node : (r : ℕ) → r < 2 * z.qubits → (reference_at p (z.operations + r)).node ≡ (row_record rs r).node
  pub tells : TellsRelevant p z s

-- ---- the frame rows, then the operations

-- nothing is linked yet
pub record RowsPre (p : Program) (z : Shape) (rs s : List ℕ) : Type 0 where
  pub sizes : Sizes p z s
  pub records : RowsIn p z rs s
  pub start : LinksFrom p z (total p) s

-- then the frame rows are
pub record RowsLinked (z : Shape) (rs s t : List ℕ) : Type 0 where
  pub only : Only link_rows z.u s t
  pub linked : (p : Program) → RowsPre p z rs s → LinksFrom p z z.operations t

-- the frame rows are linked
pub record OperationsPre (p : Program) (z : Shape) (os s : List ℕ) : Type 0 where
  pub sizes : Sizes p z s
  pub records : OperationsIn p z os
  pub start : LinksFrom p z z.operations s

-- then all references are
pub record OperationsLinked (z : Shape) (os s t : List ℕ) : Type 0 where
  pub only : Only front_rows z.u s t
  pub linked : (p : Program) → OperationsPre p z os s → LinksFrom p z 0 t

-- ---- both

pub record LinkPre (p : Program) (z : Shape) (os rs s : List ℕ) : Type 0 where
  pub sizes : Sizes p z s
  pub operations : OperationsIn p z os
  pub rows : RowsIn p z rs s

-- the links, and for each node how many roots it has
pub record Links (p : Program) (z : Shape) (t : List ℕ) : Type 0 where
  pub linked : Linked p z t
  pub uses : entries t z.u uses_row z.nodes ≡ root_counts (roots p) z.nodes

pub record RootsLinked (z : Shape) (os rs s t : List ℕ) : Type 0 where
  pub only : Only link_rows z.u s t
  pub links : (p : Program) → LinkPre p z os rs s → Links p z t
