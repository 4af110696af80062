-- 01, "words.rs", `optimization_roots`: what is packed. Assumes nothing.
use Rattle.std.specs.Prelude.{Bool, ℕ}
use mathlib.Core.List.{List, ◌++◌, map, flatten}
use Rattle.model.specs.Lists.{any_of, keep, member}
use Rattle.model.specs.Program.{Operation, PauliRef, Program}
use Rattle.model.specs.Value.{mentions_at, mentions}

-- the qubits "mentioned by any operation's nodes"
unfoldable pub acted_on : Program → List ℕ
acted_on p = flatten (map (λ (o : Operation). mentions_at (mentions p.nodes) o.node) p.operations)

-- whether a node mentions "a qubit mentioned by any operation's nodes"
unfoldable pub relevant : Program → ℕ → Bool
relevant p n = any_of (λ q. member q (acted_on p)) (mentions_at (mentions p.nodes) n)

-- "the frame rows that mention a qubit mentioned by any operation's nodes"
unfoldable pub is_root : Program → PauliRef → Bool
is_root p r = relevant p r.node

unfoldable pub root_rows : Program → List PauliRef
root_rows p = keep (is_root p) p.rows

unfoldable pub operation_root : Operation → PauliRef
operation_root o = record { node = o.node; phase = o.phase }

-- "Roots are operations, then the frame rows"
unfoldable pub roots : Program → List PauliRef
roots p = map operation_root p.operations ++ root_rows p
