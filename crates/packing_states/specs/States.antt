-- The model's packing before each node's turn, and within it before each reference. Assumes nothing.
use Rattle.std.specs.Prelude.{ℕ, zero, suc, get_or}
use Rattle.pauli.specs.Word.{width}
use Rattle.model.specs.Lists.{when◌then◌else◌}
use Rattle.model.specs.Program.{Node, identity, Program}
use Rattle.model.specs.Words.{Value}
use Rattle.model.specs.Value.{value_at}
use Rattle.model.specs.Roots.{roots}
use Rattle.model.specs.Packing.{Pack, use_children, take_slot, pack_root, pack_node, empty_pack, values_of}
use Rattle.packing_states.specs.References.{reference_at, root_of}

unfoldable pub node_at : Program → ℕ → Node
node_at p n = get_or p.nodes n identity

-- node n's value
unfoldable pub value_of : Program → ℕ → Value
value_of p n = value_at (values_of p) n

-- before node n's turn
unfoldable pub before : Program → ℕ → Pack
before p zero = empty_pack p.nodes (roots p)
before p (suc n) = pack_node (width p.qubits) (roots p) (values_of p) n (node_at p n) (before p n)

-- node n has taken its slot
unfoldable pub slotted : Program → ℕ → Pack
slotted p n = take_slot (width p.qubits) (use_children (node_at p n) (before p n))

-- reference j's turn at node n: it is packed if it is a root of the node
unfoldable pub pack_reference : Program → ℕ → ℕ → Pack → Pack
pack_reference p n j k =
    when root_of p n j then (when k.refused then k else pack_root (width p.qubits) n (value_of p n) k (reference_at p j)) else k

-- within node n's turn, before reference j
unfoldable pub within : Program → ℕ → ℕ → Pack
within p n zero = slotted p n
within p n (suc j) = pack_reference p n j (within p n j)
