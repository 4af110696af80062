-- What functions over the nodes demand, and the nodes as they read them. Assumes nothing.
use Rattle.std.specs.Prelude.{◌≡◌, List, ℕ, ◌<◌, length}
use Rattle.std.proofs.Common.{sym, ap, subst, arith}
use Rattle.model.specs.Program.{identity}
use Rattle.theory.specs.Every.{Every, every_at}
use Rattle.theory.specs.ByNode.{OfChildren}
use Rattle.theory.specs.Checked.{LeafIn}
use Rattle.records.specs.declared.NodeRecord.{NodeRecord}
use Rattle.records.specs.declared.NodeRecord.TheVariants.{Letter, Product}
use Rattle.records.specs.declared.Factor.{Factor}
use Rattle.records.specs.Records.{node_record, node_said}
use Rattle.records.specs.Nodes.{nodes_in, node_here, nodes_count, node_here_lem}
use Rattle.packing_states.specs.NodeRows.{NodeInRows, NodesInRows, node_in_rows}

-- nodes and qubits have their entries in a row
pub record NodesPre (ns : List ℕ) (u count : ℕ) (xs : List ℕ) : Type 0 where
  pub nodes : NodesInRows ns u count xs
  pub leaves : Every (LeafIn u) (nodes_in count ns)

-- what is asked of one node: it is there, and so are the entries of its qubit or its children
pub record NodePre (ns : List ℕ) (u n : ℕ) (xs : List ℕ) : Type 0 where
  pub node : NodeInRows ns u n xs
  pub leaf : LeafIn u (node_here ns n)

module _ {ns : List ℕ} {u count : ℕ} {xs : List ℕ} (h : NodesPre ns u count xs) (n : ℕ) (b : n < count) where
  pub leaf_here : LeafIn u (node_here ns n)
  leaf_here =
      rw (node_here_lem count ns n b) at (every_at (LeafIn u) (nodes_in count ns) identity n h.leaves (omega (arith, nodes_count count ns)))

  -- what is asked of each node
  pub node_pre : {ys : List ℕ} → length ys ≡ length xs → NodePre ns u n ys
  node_pre e = record { node = node_in_rows h.nodes n b e; leaf = leaf_here }

-- ---- the record that was read

module _ {ns : List ℕ} {u n : ℕ} {xs : List ℕ} (h : NodePre ns u n xs) where
  pub qubit_inside : {q c : ℕ} → Letter q c ≡ node_record ns n → q < u
  qubit_inside here = (subst (λ (x : NodeRecord). LeafIn u (node_said x)) (sym here) h.leaf).0

  pub children_inside : {a b : Factor} → Product a b ≡ node_record ns n → (a.node < u) × (b.node < u)
  children_inside here = subst (λ (x : NodeRecord). OfChildren (λ i. i < u) (node_said x)) (sym here) h.node.children

-- the node is what it says
pub said_here : (ns : List ℕ) (n : ℕ) {x : NodeRecord} → x ≡ node_record ns n → node_here ns n ≡ node_said x
said_here ns n here = ap node_said (sym here)
