-- The theorems: for every program that Checking passes, every setting of the rules and any number of rounds. Assumes nothing.
use Rattle.std.specs.Prelude.{◌≡◌, refl, Bool, false, List, [], ◌∷◌, ◌++◌, ℕ, suc, ◌*◌, ◌/◌, ◌≤◌, length}
use Rattle.std.proofs.Common.{ap, ◌∙◌, arith}
use Rattle.std.proofs.Math.ListN.{length-map}
use Rattle.store.specs.Chunk.{chunks_length}
use Rattle.pauli.specs.Word.{width}
use Rattle.model.specs.declared.Options.{Options}
use Rattle.model.specs.Answers.{Accepted}
use Rattle.model.specs.Program.{Job, operation_records, PauliRef, Program, operation_of, program_of}
use Rattle.model.specs.Rules.{Rules, rules_of}
use Rattle.model.specs.Packing.{packed, SignedAxis}
use Rattle.model.specs.Items.{Item}
use Rattle.model.specs.Stream.{begin}
use Rattle.model.specs.Rounds.{Work}
use Rattle.model.specs.Run.{start_of, end_of}
use Rattle.model.specs.Results.{item_record, operation_results, row_results_from, row_results}
use Rattle.model.specs.Checking.{Lent, checking}
use Rattle.theory.specs.Every.{Every}
use Rattle.theory.specs.StreamState.{AllIn, begin_sound}
use Rattle.theory.specs.Steady.{Steady}
use Rattle.theory.specs.PackedRoots.{start_range}
use Rattle.theory.specs.Checked.{Fine, checked_fine}
use Rattle.words_wellformed.specs.PassWords.{rules_behind, after_items}
use Rattle.words_wellformed.specs.RunWords.{TurnsItem}
use Rattle.run_wellformed.specs.Memory.{width_positive, axes_within}
use Rattle.run_wellformed.specs.Points.{Reached, passes_reached, StreamFormed, after_items_formed, WellFormed, reached_formed, reached_steady}
use Rattle.run_wellformed.specs.Points.{start_formed}
use Rattle.run_wellformed.specs.Changing.{WaitsAs, begin_waits, after_items_waits}

every_front : {A : Type 0} (P : A → Type 0) (xs ys : List A) → Every P (xs ++ ys) → Every P xs
every_front P [] ys h = tt
every_front P (x ∷ xs) ys h = (h.0, every_front P xs ys h.1)

all_in_front : (m : ℕ) (xs ys : List Item) → AllIn m (xs ++ ys) → AllIn m xs
all_in_front m [] ys h = tt
all_in_front m (x ∷ xs) ys h = (h.0, all_in_front m xs ys h.1)

module _ (p : Program) (fine : Fine p) (r : Rules) where
  -- ---- every point of a run

  -- angles are 1 to 7, there are at most as many items as operations, the axes are within the sums tested
  pub point_formed : {v : Work} → Reached (width p.qubits) r (start_of p) v → WellFormed (width p.qubits) (length p.operations) v
  point_formed h = reached_formed (width p.qubits) (length p.operations) r h (start_formed p fine)

  -- where no sum tested so far exceeds the limit, the axes fit into it
  pub point_axes : {v : Work} (limit : ℕ) → Reached (width p.qubits) r (start_of p) v → v.store.peak ≤ limit
      → length v.store.axes ≤ limit / (2 * width p.qubits)
  point_axes {v} limit h b = axes_within (width p.qubits) limit (width_positive p.qubits) v.store (point_formed h).fits b

  -- axes are in range, and the barriers are those of the start, in order
  pub point_steady : {v : Work} → (packed p).refused ≡ false → Reached (width p.qubits) r (start_of p) v → Steady (start_of p) v
  point_steady e h = reached_steady (width p.qubits) r h (start_range p fine.ordered e fine.operations)

  -- ---- every point of every stream of a run: after the items `is` of a point v

  -- angles are 0 to 7, no more was put out than was read, axes and images are within the sums tested, F took in 2, 4 and 6 alone
  pub point_stream : {v : Work} → Reached (width p.qubits) r (start_of p) v → (merging : Bool) (is rest : List Item) → v.items ≡ is ++ rest
      → StreamFormed (width p.qubits) (length is) (after_items (width p.qubits) r merging (begin v.store) is)
  point_stream {v} h merging is rest e =
      let w = point_formed h in
      after_items_formed (width p.qubits) r merging v.store is (every_front TurnsItem is rest (rw e at w.turns)) w.fits

  -- where even rotations are absorbed at once, none waits; in lazy mode, also behind a named operation, what waits commutes with every later
  -- nonzero rotation of the output, and none waits before a barrier
  pub point_waiting : {v : Work} → (packed p).refused ≡ false → Reached (width p.qubits) r (start_of p) v
      → (merging : Bool) (is rest : List Item) → v.items ≡ is ++ rest
      → WaitsAs (width p.qubits) (rules_behind r is).absorption (after_items (width p.qubits) r merging (begin v.store) is)
  point_waiting {v} hermitian h merging is rest e =
      after_items_waits (width p.qubits) r merging (begin v.store) is
      (every_front TurnsItem is rest (rw e at (point_formed h).turns))
      (unfold begin in (all_in_front _ is rest (rw e at (point_steady hermitian h).range))) (begin_sound v.store)
      (begin_waits (width p.qubits) r.absorption v.store)

  -- ---- the end of a run

  -- what holds at every point holds at the end
  pub end_formed : (rounds : ℕ) → WellFormed (width p.qubits) (length p.operations) (end_of r rounds p)
  unfolding end_of
  end_formed rounds = point_formed (passes_reached (width p.qubits) r (start_of p) r.strategy rounds)

  -- the results have at most as many records as there were operations
  pub results_length : (rounds : ℕ) → length (operation_results p (end_of r rounds p)) ≤ length p.operations
  unfolding operation_results
  results_length rounds =
      omega (arith, length-map (end_of r rounds p).items (item_record p.operations), (end_formed rounds).short)

-- and a record for each row
row_results_from_length : (p : Program) (i : ℕ) (rows : List PauliRef) (fs : List SignedAxis) → length (row_results_from p i rows fs) ≡ length rows
unfolding row_results_from
row_results_from_length p i [] fs = refl
row_results_from_length p i (row ∷ rest) fs = ap suc (row_results_from_length p (suc i) rest _)

-- as many row records as rows
pub row_results_length : (p : Program) (w : Work) → length (row_results p w) ≡ length p.rows
unfolding row_results
row_results_length p w = row_results_from_length p 0 p.rows _

-- ---- calls

operations_length : (j : Job) → length (program_of j).operations ≡ j.counts.operations
unfolding program_of
operations_length j = length-map (operation_records j) operation_of ∙ chunks_length 6 j.counts.operations j.operations

-- the operations' results of a call that Checking passes
pub call_results_length : (o : Options) (j : Job) (s : Lent) → checking o j s ≡ Accepted
    → length (operation_results (program_of j) (end_of (rules_of o) o.rounds (program_of j))) ≤ j.counts.operations
call_results_length o j s c =
    omega (arith, results_length (program_of j) (checked_fine o j s c) (rules_of o) o.rounds, operations_length j)
