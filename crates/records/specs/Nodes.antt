-- The nodes in their slice, as the model's list and as records. Assumes nothing.
use Rattle.std.specs.Prelude.{◌≡◌, List, map, ℕ, ◌<◌, length, get_or}
use Rattle.store.specs.Chunk.{chunks}
use Rattle.model.specs.Program.{Node, identity, node_of}
use Rattle.theory.specs.Checked.{records_length}
use Rattle.records.specs.Records.{node_record, node_said, node_said_lem}

-- the first count nodes of the slice
unfoldable pub nodes_in : ℕ → List ℕ → List Node
nodes_in count ns = map node_of (chunks 5 count ns)

-- node n as its record says it
abbrev pub node_here : List ℕ → ℕ → Node
node_here ns n = node_said (node_record ns n)

-- they are as many
pub nodes_count : (count : ℕ) (ns : List ℕ) → length (nodes_in count ns) ≡ count
unfolding nodes_in
nodes_count count ns = records_length node_of 5 count ns

-- node n is what record n says
pub node_here_lem : (count : ℕ) (ns : List ℕ) (n : ℕ) → n < count → get_or (nodes_in count ns) n identity ≡ node_here ns n
unfolding nodes_in
node_here_lem count ns n h = node_said_lem count ns n h
