-- 01, "What takes another form" and "Listing program": a call's program, and what its records say. Assumes nothing.
use Rattle.std.specs.Prelude.{Bool, true, false, List, map, ℕ, zero, suc, ◌*◌, get_or}
use Rattle.store.specs.Chunk.{chunks}
use Rattle.model.specs.declared.Counts.{Counts}

-- ---- "A record in a lent slice is its fields as u32 in this order"

abbrev pub field_of : List ℕ → ℕ → ℕ
field_of r i = get_or r i 0

-- n records of w fields each
abbrev pub records : ℕ → ℕ → List ℕ → List (List ℕ)
records w n s = chunks w n s

-- "Outcomes and targets are 16-bit, 0 to 65,534; 65,535 marks no target."
abbrev pub largest_outcome : ℕ
largest_outcome = 65534

-- "-1 there is 65,535 for an outcome or target, else 4,294,967,295"
abbrev pub no_outcome : ℕ
no_outcome = 65535

abbrev pub minus_one : ℕ
minus_one = 4294967295

-- what a call is handed: "The program is only read."
pub record Job : Type 0 where
  pub counts : Counts
  pub nodes : List ℕ
  pub operations : List ℕ
  pub rows : List ℕ

-- the counted records: what lies behind them is not looked at
abbrev pub node_records : Job → List (List ℕ)
node_records j = records 5 j.counts.nodes j.nodes

abbrev pub operation_records : Job → List (List ℕ)
operation_records j = records 6 j.counts.operations j.operations

-- "two frame rows per qubit (x, then z)"
abbrev pub row_records : Job → List (List ℕ)
row_records j = records 4 (2 * j.counts.qubits) j.rows

-- ---- nodes: "kind 0 identity, 1 qubit letter 0 0, 2 node phase node phase; letters I X Y Z = 0 to 3"

pub data Node : Type 0 where
  identity : Node
  letter : ℕ → ℕ → Node
  product : ℕ → ℕ → ℕ → ℕ → Node

unfoldable pub node_of_kind : ℕ → List ℕ → Node
node_of_kind zero r = identity
node_of_kind (suc zero) r = letter (field_of r 1) (field_of r 2)
node_of_kind (suc (suc k)) r = product (field_of r 1) (field_of r 2) (field_of r 3) (field_of r 4)

unfoldable pub node_of : List ℕ → Node
node_of r = node_of_kind (field_of r 0) r

-- ---- operations: "kind 1 rotate, 2 measure, 3 conditional; node, phase, angle, outcome, target"

pub data Kind : Type 0 where
  rotate measure conditional : Kind

abbrev pub kind_of : ℕ → Kind
kind_of zero = rotate
kind_of (suc zero) = rotate
kind_of (suc (suc zero)) = measure
kind_of (suc (suc (suc k))) = conditional

abbrev pub is_measure : Kind → Bool
is_measure rotate = false
is_measure measure = true
is_measure conditional = false

abbrev pub is_rotate : Kind → Bool
is_rotate rotate = true
is_rotate measure = false
is_rotate conditional = false

pub record Operation : Type 0 where
  pub kind : Kind
  pub node : ℕ
  pub phase : ℕ
  pub angle : ℕ
  pub outcome : ℕ
  pub target : ℕ

unfoldable pub operation_of : List ℕ → Operation
operation_of r = record {
  kind = kind_of (field_of r 0);
  node = field_of r 1;
  phase = field_of r 2;
  angle = field_of r 3;
  outcome = field_of r 4;
  target = field_of r 5;
}

-- ---- frame rows: "rows (qubit, 0 x or 1 z, node, phase)"; a row's place says its qubit, and whether it is x or z

-- i ^ phase times a node's value
pub record PauliRef : Type 0 where
  pub node : ℕ
  pub phase : ℕ

unfoldable pub row_of : List ℕ → PauliRef
row_of r = record { node = field_of r 2; phase = field_of r 3 }

-- ---- the program

pub record Program : Type 0 where
  pub qubits : ℕ
  pub nodes : List Node
  pub operations : List Operation
  pub rows : List PauliRef

unfoldable pub program_of : Job → Program
program_of j = record {
  qubits = j.counts.qubits;
  nodes = map node_of (node_records j);
  operations = map operation_of (operation_records j);
  rows = map row_of (row_records j);
}
