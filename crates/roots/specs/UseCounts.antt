-- Counting uses: what its functions demand of the number store and leave in it. Assumes nothing.
use Rattle.std.specs.Prelude.{◌≡◌, List, [], ◌∷◌, ℕ, ◌*◌, ◌≤◌, ◌<◌, length, get_or}
use Rattle.store.specs.Row.{row}
use Rattle.model.specs.Packing.{one_use_more, count_uses}
use Rattle.theory.specs.ByNode.{OfChildren}
use Rattle.layout.specs.Rows.{row_count, uses_row, entries}
use Rattle.layout.specs.Only.{Only}
use Rattle.records.specs.Nodes.{nodes_in, node_here}
use Rattle.packing_states.specs.Counts.{count_node}
use Rattle.packing_states.specs.NodeRows.{NodeInRows, NodesInRows}

-- ---- one use more

-- the count still fits 32 bits
pub record AddPre (s : List ℕ) (u n : ℕ) : Type 0 where
  pub long : row_count * u ≤ length s
  pub node : n < u
  pub uses : get_or (row s u uses_row) n 0 < 4294967295

-- the model's one use more
pub record Added (s : List ℕ) (u n : ℕ) (t : List ℕ) : Type 0 where
  pub only : Only (uses_row ∷ []) u s t
  pub uses : row t u uses_row ≡ one_use_more n (row s u uses_row)

-- ---- one node

-- a product's children have entries, and room for two uses more
pub record UsePre (ns s : List ℕ) (u n : ℕ) : Type 0 where
  pub node : NodeInRows ns u n s
  pub uses : OfChildren (λ m. get_or (row s u uses_row) m 0 < 4294967294) (node_here ns n)

-- node n's turn in the model's count
pub record ChildrenUsed (ns s : List ℕ) (u n : ℕ) (t : List ℕ) : Type 0 where
  pub only : Only (uses_row ∷ []) u s t
  pub uses : row t u uses_row ≡ count_node n (node_here ns n) (row s u uses_row)

-- ---- all nodes

-- no node is used by more than all references so far, 65,535 + 2 × 4,096 of them
pub record CountPre (ns s : List ℕ) (u count : ℕ) : Type 0 where
  pub nodes : NodesInRows ns u count s
  pub few : count ≤ 65535
  pub uses : (m : ℕ) → m < count → get_or (entries s u uses_row count) m 0 ≤ 73727

-- the model's count
pub record UsesCounted (ns s : List ℕ) (u count : ℕ) (t : List ℕ) : Type 0 where
  pub only : Only (uses_row ∷ []) u s t
  pub uses : entries t u uses_row count ≡ count_uses (nodes_in count ns) count (entries s u uses_row count)
