-- An accepted call of Rewriting: the records in its lent slices are those of the work at the end of its run. Assumes nothing.
use Rattle.std.specs.Prelude.{◌≡◌, refl, Bool, true, false, ℕ, suc, ◌*◌, ◌<◌, length, take, drop}
use Rattle.std.proofs.Common.{sym, ◌∙◌, ap, ap₂, arith}
use mathlib.Core.List.{List, [], ◌∷◌, ◌++◌, map, flatten, append_assoc}
use Rattle.std.proofs.lemmas.List.{length-map}
use Rattle.store.specs.Chunk.{chunks, chunks_length}
use Rattle.pauli.specs.Word.{width, IsWord}
use Rattle.model.specs.declared.Options.{Options}
use Rattle.model.specs.Answers.{Accepted}
use Rattle.model.specs.Program.{records, Job, row_records, Kind, rotate, measure, conditional, Operation, PauliRef, row_of, Program, program_of}
use Rattle.model.specs.Rules.{Rules, rules_of}
use Rattle.model.specs.Words.{word_of}
use Rattle.model.specs.Roots.{is_root}
use Rattle.model.specs.Packing.{packed, SignedAxis}
use Rattle.model.specs.Items.{Item, rotation, barrier}
use Rattle.model.specs.Rounds.{Work}
use Rattle.model.specs.Run.{start_of, end_of}
use Rattle.model.specs.Results.{operation_at, barrier_record, item_record, operation_results, kept_row, given_row, row_record, axes_left, row_results_from}
use Rattle.model.specs.Results.{row_results}
use Rattle.model.specs.Checking.{Lent}
use Rattle.model.specs.Rewriting.{Reply, then_zeros, accepted, rewriting}
use Rattle.theory.specs.Every.{Every}
use Rattle.theory.specs.Checked.{Fine, checked_fine}
use Rattle.theory.specs.AcceptedRun.{finish_of}
use Rattle.theory.specs.TCountCalls.{accepted_checks, accepted_hermitian, accepted_reply}
use Rattle.words_wellformed.specs.Wellformed.{end_words}
use Rattle.run_wellformed.specs.Points.{passes_reached}
use Rattle.run_wellformed.specs.RunWellFormed.{row_results_length}
use Rattle.result_effect.specs.Records.{Stops, ItemStands, point_stands}

-- ---- records of k fields each, one after the other, are read again

abbrev Long : ℕ → List ℕ → Type 0
Long k r = length r ≡ k

-- what stands in front is taken
pub take_front : {A : Type 0} (x rest : List A) → take (length x) (x ++ rest) ≡ x
take_front [] rest = refl
take_front {A} (a ∷ x) rest = ap (λ (t : List A). a ∷ t) (take_front x rest)

-- or dropped
pub drop_front : {A : Type 0} (x rest : List A) → drop (length x) (x ++ rest) ≡ rest
drop_front [] rest = refl
drop_front (a ∷ x) rest = drop_front x rest

-- whatever lies behind them
pub records_read : (k : ℕ) (rs : List (List ℕ)) (rest : List ℕ) → Every (λ (r : List ℕ). length r ≡ k) rs
    → chunks k (length rs) (flatten rs ++ rest) ≡ rs
unfolding chunks flatten
records_read k [] rest h = refl
records_read k (r ∷ rs) rest h =
    let joined : (r ++ flatten rs) ++ rest ≡ r ++ (flatten rs ++ rest) = append_assoc r (flatten rs) rest in
    let one : take k ((r ++ flatten rs) ++ rest) ≡ r = rw (joined, ← h.0) (take_front r (flatten rs ++ rest)) in
    let others : drop k ((r ++ flatten rs) ++ rest) ≡ flatten rs ++ rest = rw (joined, ← h.0) (drop_front r (flatten rs ++ rest)) in
    ap₂ (λ (x : List ℕ) (xs : List (List ℕ)). x ∷ xs) one (ap (chunks k (length rs)) others ∙ records_read k rs rest h.1)

-- ---- how long records are

barrier_record_long : (op : Operation) (kind : Kind) (a s : ℕ) → Stops kind → Long 6 (barrier_record op kind a s)
unfolding barrier_record
barrier_record_long op rotate a s h = absurd h
barrier_record_long op measure a s h = refl
barrier_record_long op conditional a s h = refl

items_long : (ops : List Operation) (is : List Item) → Every (ItemStands ops) is → Every (Long 6) (map (item_record ops) is)
unfolding item_record
items_long ops [] h = tt
items_long ops (rotation r ∷ is) h = (refl, items_long ops is h.1)
items_long ops (barrier o a s ∷ is) h = (barrier_record_long (operation_at ops o) (operation_at ops o).kind a s h.0.0, items_long ops is h.1)

row_record_long : (b : Bool) (i : ℕ) (fs : List SignedAxis) → Long 4 (row_record b i fs)
unfolding row_record kept_row given_row
row_record_long false i fs = refl
row_record_long true i [] = refl
row_record_long true i (f ∷ fs) = refl

rows_long : (p : Program) (i : ℕ) (rows : List PauliRef) (fs : List SignedAxis) → Every (Long 4) (row_results_from p i rows fs)
unfolding row_results_from
rows_long p i [] fs = tt
rows_long p i (r ∷ rest) fs = (row_record_long (is_root p r) i fs, rows_long p (suc i) rest (axes_left (is_root p r) fs))

axes_long : (l : ℕ) (axes : List (List ℕ)) → ((a : ℕ) → a < length axes → IsWord l (word_of axes a)) → Every (Long (2 * l)) axes
axes_long l [] h = tt
axes_long l (w ∷ axes) h = ((h 0 (omega arith)).long, axes_long l axes (λ a b. h (suc a) (omega arith)))

-- ---- the records of a call

module _ (o : Options) (j : Job) (s : Lent) (yes' : (rewriting o j s).answer ≡ Accepted) where
  abbrev r : Rules
  r = rules_of o

  abbrev p : Program
  p = program_of j

  -- the work at the end of the call's run
  abbrev pub call_end : Work
  call_end = end_of (rules_of o) o.rounds (program_of j)

  abbrev left : Lent
  left = (rewriting o j s).lent

  -- "axis words, then zeros"
  abbrev pub left_axes : List (List ℕ)
  left_axes = chunks (2 * width (program_of j).qubits) (length call_end.store.axes) (rewriting o j s).lent.words

  -- "results, then zeros"
  abbrev pub left_operations : List (List ℕ)
  left_operations = records 6 (length call_end.items) (rewriting o j s).lent.operations

  -- two for each qubit
  abbrev pub left_rows : List (List ℕ)
  left_rows = records 4 (2 * j.counts.qubits) (rewriting o j s).lent.rows

  -- what the theorems about runs ask for
  pub call_fine : Fine (program_of j)
  call_fine = checked_fine o j s (accepted_checks o j s yes')

  -- no root was refused
  pub call_hermitian : (packed (program_of j)).refused ≡ false
  call_hermitian = accepted_hermitian o j s yes'

  -- ---- they are the run's

  -- the axis words
  pub left_axes_lem : left_axes ≡ call_end.store.axes
  left_axes_lem =
      ap (λ (x : Reply). chunks (2 * width p.qubits) (length call_end.store.axes) x.lent.words) (accepted_reply o j s yes')
      ∙ unfold accepted then_zeros in (records_read (2 * width p.qubits) call_end.store.axes _
      (axes_long (width p.qubits) call_end.store.axes (end_words r o.rounds p call_fine call_hermitian)))

  operations_long : Every (Long 6) (operation_results p call_end)
  unfolding operation_results end_of
  operations_long =
      items_long p.operations call_end.items
      (point_stands p call_fine call_hermitian r (passes_reached (width p.qubits) r (start_of p) r.strategy o.rounds))

  operations_count : length (operation_results p call_end) ≡ length call_end.items
  operations_count = unfold operation_results in (length-map call_end.items (item_record p.operations))

  -- the operations' records
  pub left_operations_lem : left_operations ≡ operation_results (program_of j) call_end
  left_operations_lem =
      ap (λ (x : Reply). records 6 (length call_end.items) x.lent.operations) (accepted_reply o j s yes')
      ∙ ap (λ (n : ℕ). records 6 n (accepted r p s (finish_of r o.rounds p)).lent.operations) (sym operations_count)
      ∙ unfold accepted then_zeros in (records_read 6 (operation_results p call_end) _ operations_long)

  rows_count : length (row_results p call_end) ≡ 2 * j.counts.qubits
  rows_count =
      row_results_length p call_end ∙ unfold program_of in (length-map (row_records j) row_of ∙ chunks_length 4 (2 * j.counts.qubits) j.rows)

  -- and the rows'
  pub left_rows_lem : left_rows ≡ row_results (program_of j) call_end
  left_rows_lem =
      ap (λ (x : Reply). records 4 (2 * j.counts.qubits) x.lent.rows) (accepted_reply o j s yes')
      ∙ ap (λ (n : ℕ). records 4 n (accepted r p s (finish_of r o.rounds p)).lent.rows) (sym rows_count)
      ∙ unfold accepted then_zeros in (records_read 4 (row_results p call_end) _ (unfold row_results in (rows_long p 0 p.rows _)))
