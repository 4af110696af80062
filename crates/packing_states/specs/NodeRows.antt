-- A program's nodes with their entries in the rows of the number store, and which of them row RELEVANT tells. Assumes nothing.
use Rattle.std.specs.Prelude.{◌≡◌, List, ℕ, ◌+◌, ◌*◌, ◌≤◌, ◌<◌, length, get_or}
use Rattle.std.proofs.Common.{arith}
use Rattle.store.specs.Row.{row}
use Rattle.model.specs.Lists.{when◌then◌else◌}
use Rattle.model.specs.Program.{Program}
use Rattle.model.specs.Roots.{relevant}
use Rattle.theory.specs.ByNode.{ChildrenBefore, Ordered, OfChildren, children_before, children_of}
use Rattle.layout.specs.declared.Shape.{Shape}
use Rattle.layout.specs.Rows.{row_count, relevant_row}
use Rattle.layout.specs.Shape.{Sized}
use Rattle.records.specs.Nodes.{nodes_in, node_here, nodes_count, node_here_lem}
use Rattle.records.specs.Given.{nodes_in_lem, Given}

-- node n has its record; it and a product's children have their entries in a row
pub record NodeInRows (ns : List ℕ) (u n : ℕ) (xs : List ℕ) : Type 0 where
  pub long : row_count * u ≤ length xs
  pub record_long : n * 5 + 5 ≤ length ns
  pub node : n < u
  pub children : OfChildren (λ i. i < u) (node_here ns n)

-- so have count nodes; children stand before their products
pub record NodesInRows (ns : List ℕ) (u count : ℕ) (xs : List ℕ) : Type 0 where
  pub long : row_count * u ≤ length xs
  pub nodes_long : count * 5 ≤ length ns
  pub fits : count ≤ u
  pub ordered : Ordered 0 (nodes_in count ns)

module _ {ns : List ℕ} {u count : ℕ} {xs : List ℕ} (h : NodesInRows ns u count xs) (n : ℕ) (b : n < count) where
  pub children_here : ChildrenBefore n (node_here ns n)
  children_here = rw (node_here_lem count ns n b) at (children_before (nodes_in count ns) h.ordered n (omega (arith, nodes_count count ns)))

  -- each of them, in a store as long
  pub node_in_rows : {ys : List ℕ} → length ys ≡ length xs → NodeInRows ns u n ys
  node_in_rows e = record {
    long = omega (arith, h.long);
    record_long = omega (arith, h.nodes_long);
    node = omega (arith, h.fits);
    children = children_of n (node_here ns n) children_here (λ i k. omega (arith, h.fits));
  }

-- row RELEVANT tells the relevant nodes
abbrev pub TellsRelevant : Program → Shape → List ℕ → Type 0
TellsRelevant p z xs = (n : ℕ) → n < z.nodes → get_or (row xs z.u relevant_row) n 0 ≡ (when relevant p n then 1 else 0)

-- the nodes of a program that Checking passed
pub given_rows : {z : Shape} {ns os rs xs : List ℕ} → Sized z → Given z ns os rs → row_count * z.u ≤ length xs
    → NodesInRows ns z.u z.nodes xs
given_rows {z} {ns} {os} {rs} sized given long = record {
  long = long;
  nodes_long = given.nodes_long;
  fits = omega (arith, sized.row);
  ordered = rw (nodes_in_lem z ns os rs) at given.fine.ordered;
}
