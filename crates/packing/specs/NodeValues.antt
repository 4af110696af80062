-- The values of a program's nodes: each from its children's, its phase. Assumes nothing.
use Rattle.std.specs.Prelude.{◌≡◌, ℕ, ◌<◌, length}
use Rattle.std.proofs.Common.{arith}
use Rattle.pauli.specs.Word.{width}
use Rattle.model.specs.Program.{Node, identity, letter, product, Program}
use Rattle.model.specs.Words.{Value, multiply}
use Rattle.model.specs.Value.{node_value}
use Rattle.theory.specs.Every.{every_at}
use Rattle.theory.specs.Checked.{LeafIn, Fine}
use Rattle.theory.specs.PlainValue.{values_own}
use Rattle.packing_states.specs.States.{node_at, value_of}

-- a node's value has a phase of 0 to 3
node_value_turns : (l : ℕ) (f : ℕ → Value) (node : Node) → (node_value l f node).turns < 4
unfolding node_value multiply
node_value_turns l f identity = omega arith
node_value_turns l f (letter q c) = omega arith
node_value_turns l f (product a p b r) = omega arith

-- ---- a program's nodes

module _ (p : Program) (fine : Fine p) (n : ℕ) (b : n < length p.nodes) where
  -- a node's value is worked out from the values of its children
  pub value_own : value_of p n ≡ node_value (width p.qubits) (value_of p) (node_at p n)
  unfolding value_of node_at
  value_own = values_own (width p.qubits) p.nodes fine.ordered n b

  -- its phase is 0 to 3
  pub value_turns : (value_of p n).turns < 4
  value_turns = rw value_own (node_value_turns (width p.qubits) (value_of p) (node_at p n))

  -- a leaf is on a qubit
  pub leaf_in : LeafIn p.qubits (node_at p n)
  unfolding node_at
  leaf_in = every_at (LeafIn p.qubits) p.nodes identity n fine.leaves b
