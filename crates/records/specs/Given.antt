-- A program as it lies in the lent slices, after Checking has passed it. Assumes nothing.
use Rattle.std.specs.Prelude.{◌≡◌, refl, List, ℕ, ◌*◌, ◌≤◌, length}
use Rattle.std.proofs.Common.{arith}
use Rattle.pauli.specs.Word.{width}
use Rattle.model.specs.declared.Options.{Options}
use Rattle.model.specs.Answers.{Accepted}
use Rattle.model.specs.Program.{Job, Program, program_of}
use Rattle.model.specs.Checking.{Lent, checking}
use Rattle.theory.specs.Checked.{Fine, checked_fine}
use Rattle.layout.specs.declared.Shape.{Shape}
use Rattle.layout.specs.Bounds.{program_long, passed}
use Rattle.layout.specs.Shape.{shape_of, Granted}
use Rattle.records.specs.Nodes.{nodes_in}
use Rattle.records.specs.Operations.{operations_in}

-- the program of these sizes in these slices
unfoldable pub program_in : Shape → List ℕ → List ℕ → List ℕ → Program
program_in z ns os rs = program_of (record {
  counts = record { qubits = z.qubits; nodes = z.nodes; operations = z.operations };
  nodes = ns;
  operations = os;
  rows = rs;
})

-- its nodes
pub nodes_in_lem : (z : Shape) (ns os rs : List ℕ) → (program_in z ns os rs).nodes ≡ nodes_in z.nodes ns
unfolding program_in program_of nodes_in
nodes_in_lem z ns os rs = refl

-- its operations
pub operations_in_lem : (z : Shape) (ns os rs : List ℕ) → (program_in z ns os rs).operations ≡ operations_in z.operations os
unfolding program_in program_of operations_in
operations_in_lem z ns os rs = refl

-- its words' width
pub width_in : {z : Shape} {ws xs : List ℕ} (ns os rs : List ℕ) → Granted z ws xs → z.l ≡ width (program_in z ns os rs).qubits
unfolding program_in program_of
width_in ns os rs granted = granted.sized.l_is

-- it is fine, and its records are there
pub record Given (z : Shape) (ns os rs : List ℕ) : Type 0 where
  pub fine : Fine (program_in z ns os rs)
  pub nodes_long : z.nodes * 5 ≤ length ns
  pub operations_long : z.operations * 6 ≤ length os
  pub rows_long : 2 * z.qubits * 4 ≤ length rs

-- Checking grants it
pub checked_given : (o : Options) (j : Job) (s : Lent) → checking o j s ≡ Accepted
    → Given (shape_of j.counts o.max_packed_words) j.nodes j.operations j.rows
unfolding program_in shape_of
checked_given o j s h =
    let l = program_long j (passed o j s h).program in
    record { fine = checked_fine o j s h; nodes_long = omega arith; operations_long = omega arith; rows_long = omega arith }
