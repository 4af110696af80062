-- A program in the lent slices: its counts, and its nodes and references as their records. Assumes nothing.
use Rattle.std.specs.Prelude.{◌≡◌, refl, List, map, ◌++◌, ℕ, ◌+◌, ◌*◌, ◌<◌}
use Rattle.std.proofs.Math.Path.{ap}
use Rattle.std.proofs.Common.{◌∙◌, arith}
use Rattle.std.proofs.Math.ListN.{length, get_or-map}
use Rattle.model.specs.Program.{operation_of, row_of, Program, program_of}
use Rattle.model.specs.Roots.{operation_root}
use Rattle.model.specs.Results.{no_operation}
use Rattle.theory.specs.Every.{every_append, every_map, every_at}
use Rattle.theory.specs.Checked.{NodeIn, RowIn, Fine, records_length}
use Rattle.layout.specs.declared.Shape.{Shape}
use Rattle.records.specs.Records.{operation_record, row_record, operation_said, row_said, operation_said_lem, row_said_lem}
use Rattle.records.specs.Nodes.{node_here, nodes_count, node_here_lem}
use Rattle.records.specs.Given.{program_in, nodes_in_lem, Given}
use Rattle.packing_states.specs.References.{references, no_reference, reference_at, total}
use Rattle.packing_states.specs.ReferenceLaws.{total_sum, operation_at, row_behind}
use Rattle.packing_states.specs.States.{node_at}

module _ (z : Shape) (ns os rs : List ℕ) where
  -- ---- as many as the counts say

  pub operations_count : length (program_in z ns os rs).operations ≡ z.operations
  unfolding program_in program_of
  operations_count = records_length operation_of 6 z.operations os

  rows_count : length (program_in z ns os rs).rows ≡ 2 * z.qubits
  unfolding program_in program_of
  rows_count = records_length row_of 4 (2 * z.qubits) rs

  pub total_is : total (program_in z ns os rs) ≡ z.operations + 2 * z.qubits
  total_is = omega (arith, total_sum (program_in z ns os rs), operations_count, rows_count)

  -- ---- record by record

  pub node_is : (n : ℕ) → n < z.nodes → node_at (program_in z ns os rs) n ≡ node_here ns n
  unfolding node_at
  node_is n h = rw (nodes_in_lem z ns os rs) (node_here_lem z.nodes ns n h)

  -- operation j is reference j
  pub operation_reference : (j : ℕ) → j < z.operations
      → reference_at (program_in z ns os rs) j ≡ record { node = (operation_record os j).node; phase = (operation_record os j).phase }
  unfolding program_in program_of no_operation operation_root operation_said
  operation_reference j h =
      let p = program_in z ns os rs in
      operation_at p j (omega (arith, operations_count)) ∙ get_or-map operation_root p.operations j no_operation
      ∙ ap operation_root (operation_said_lem z.operations os j h)

  -- frame row r is reference operations + r
  pub row_reference : (r : ℕ) → r < 2 * z.qubits
      → reference_at (program_in z ns os rs) (z.operations + r) ≡ record { node = (row_record rs r).node; phase = (row_record rs r).phase }
  unfolding program_in program_of row_said
  row_reference r h =
      let p = program_in z ns os rs in
      let e : z.operations + r ≡ length p.operations + r = omega (arith, operations_count) in
      rw e (row_behind p r ∙ row_said_lem (2 * z.qubits) rs r h)

-- a fine program's references are to its nodes
pub reference_node : (p : Program) → Fine p → (j : ℕ) → j < total p → (reference_at p j).node < length p.nodes
unfolding reference_at total references operation_root
reference_node p f j h =
    let n = length p.nodes in
    let ops = map operation_root p.operations in
    every_at (RowIn n) (ops ++ p.rows) no_reference j
    (every_append (RowIn n) ops p.rows (every_map (NodeIn n) (RowIn n) operation_root (λ x k. k) p.operations f.operations)
    f.rows) h

-- ---- what is known of a program without its records

-- it is fine, and has as many qubits, nodes, operations and references as the shape says
pub record OfShape (p : Program) (z : Shape) : Type 0 where
  pub fine : Fine p
  pub qubits : p.qubits ≡ z.qubits
  pub nodes : length p.nodes ≡ z.nodes
  pub operations : length p.operations ≡ z.operations
  pub references : total p ≡ z.operations + 2 * z.qubits

-- so is the program in the slices
pub given_shape : {z : Shape} {ns os rs : List ℕ} → Given z ns os rs → OfShape (program_in z ns os rs) z
unfolding program_in program_of
given_shape {z} {ns} {os} {rs} g = record {
  fine = g.fine;
  qubits = refl;
  nodes = ap length (nodes_in_lem z ns os rs) ∙ nodes_count z.nodes ns;
  operations = operations_count z ns os rs;
  references = total_is z ns os rs;
}
