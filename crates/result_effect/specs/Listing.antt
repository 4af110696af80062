-- An accepted listing: the lines that it prints mean the work at the end of its run. Assumes nothing.
use Rattle.std.specs.Prelude.{◌≡◌, Bool, true, false, not, ◌||◌, ◌&&◌, ℕ, zero, suc, ◌*◌, ◌≤◌, eqb, ltb, pos, length}
use Rattle.std.proofs.Math.Path.{refl, ap, ap₂}
use Rattle.std.proofs.Common.{sym, ◌∙◌, subst, arith, eqb-true, ltb-false}
use Rattle.std.proofs.Math.Option.{Option, some}
use mathlib.Core.List.{List, [], ◌∷◌, ◌++◌, map}
use Rattle.std.proofs.Math.ListN.{take, drop}
use Rattle.std.proofs.lemmas.List.{length-map}
use Rattle.store.specs.Chunk.{chunks_length}
use Rattle.groups.specs.Eighth.{eighth}
use Rattle.pauli.specs.Word.{width}
use Rattle.model.specs.Answers.{Accepted, BadOperation}
use Rattle.model.specs.Program.{field_of, largest_outcome, no_outcome, minus_one, Job, operation_records, row_records, Kind, rotate, measure}
use Rattle.model.specs.Program.{conditional}
use Rattle.model.specs.Program.{kind_of, Operation, operation_of, row_of, Program, program_of}
use Rattle.model.specs.Rules.{Rules, rules_of}
use Rattle.model.specs.Items.{Item, rotation, barrier, with_sign}
use Rattle.model.specs.Rounds.{Work}
use Rattle.model.specs.Run.{start_of, end_of}
use Rattle.model.specs.Results.{sign_field, no_operation, operation_at, barrier_record, item_record, operation_results, row_results, counters_of}
use Rattle.model.specs.Checking.{bad_operation, measured, check_nodes, check_operation, check_operations, check_rows, check_program}
use Rattle.model.specs.Listing.{Read, read, from16, result_line, letter_lines, first_line, end_lines, job_lines}
use Rattle.model.specs.Listing.{text_of, lines_of, listing}
use Rattle.theory.specs.Cases.{on_if, neither}
use Rattle.theory.specs.Every.{Every}
use Rattle.theory.specs.Checked.{both_accepted, not_refused}
use Rattle.theory.specs.AcceptedRun.{finish_of}
use Rattle.theory.specs.ListingCalls.{options_of, listing_answer, listed_checks, listed_fine, listed_hermitian, listed_end_lem}
use Rattle.words_wellformed.specs.Wellformed.{end_words}
use Rattle.run_wellformed.specs.Points.{passes_reached}
use Rattle.run_wellformed.specs.RunWellFormed.{row_results_length}
use Rattle.effect.specs.Effect.{Op, measured as measured_op, conditional as given_outcome}
use Rattle.items_effect.specs.Ops.{item_ops}
use Rattle.packing_effect.specs.Source.{axis_word, barrier_op}
use Rattle.result_effect.specs.Definitions.{sign_read, operations_read, rows_read, letters_read, axes_read, result_op_of_kind, result_op, result_ops}
use Rattle.result_effect.specs.Definitions.{result_rows, work_rows}
use Rattle.result_effect.specs.Records.{Stops, ItemStands, point_stands, end_ops}
use Rattle.result_effect.specs.Rows.{end_rows}
use Rattle.result_effect.specs.Calls.{take_front, drop_front}
use Rattle.result_effect.specs.Letters.{axes_read_lem}

-- ---- "Outcomes and targets are 16-bit, 0 to 65,534": so -1 is none of them

abbrev pub SmallFields : Operation → Type 0
SmallFields op = (op.target ≤ no_outcome) × (Stops op.kind → op.outcome ≤ largest_outcome)

-- "outcome above 65,534 unless it is a plain rotation"
not_rotation : (k : ℕ) (t : Bool) → Stops (kind_of k) → not (eqb k 1) && t ≡ false → t ≡ false
not_rotation k t h = go (eqb k 1) refl
  where
    go : (b : Bool) → eqb k 1 ≡ b → not b && t ≡ false → t ≡ false
    go true e f = absurd (subst (λ (n : ℕ). Stops (kind_of n)) (eqb-true k 1 e) h)
    go false e f = f

fields_checked : (n : ℕ) (seen : List ℕ) (rs : List (List ℕ)) → check_operations n seen rs ≡ Accepted → Every SmallFields (map operation_of rs)
unfolding check_operations check_operation operation_of bad_operation
fields_checked n seen [] h = tt
fields_checked n seen (r ∷ rs) h =
    let b = both_accepted _ _ h in
    let c = not_refused _ BadOperation _ refl b.0 in
    let f = neither (eqb (field_of r 0) 0 || ltb 3 (field_of r 0) || ltb 7 (field_of r 3) || ltb no_outcome (field_of r 5)) _ c.0 in
    let target = (neither (eqb (field_of r 0) 0 || ltb 3 (field_of r 0) || ltb 7 (field_of r 3)) _ f.0).1 in (
      (ltb-false no_outcome (field_of r 5) target, λ k. ltb-false largest_outcome (field_of r 4) (not_rotation (field_of r 0) _ k f.1)),
      fields_checked n (measured seen r) rs b.1,
    )

program_fields : (j : Job) → check_program j ≡ Accepted → Every SmallFields (program_of j).operations
unfolding check_program program_of
program_fields j h =
    let a = both_accepted (check_nodes j.counts.qubits 0 _) _ h in
    fields_checked j.counts.nodes [] (operation_records j) (both_accepted _ (check_rows j.counts.nodes 0 (row_records j)) a.1).0

pub fields_at : (ops : List Operation) → Every SmallFields ops → (o : ℕ) → SmallFields (operation_at ops o)
unfolding no_operation
fields_at [] h o = (omega arith, λ k. absurd k)
fields_at (x ∷ ops) h zero = h.0
fields_at (x ∷ ops) h (suc o) = fields_at ops h.1 o

-- ---- an operation's line means what its record means

outcome_read : (m : ℕ) → m ≤ largest_outcome → from16 m ≡ m
outcome_read m h = on_if (λ (x : ℕ). x ≡ m) (eqb m no_outcome) minus_one m (λ e. absurd (let z = eqb-true m no_outcome e in omega arith)) (λ e. refl)

module _ {W : Type 0} (word : List ℕ → W) (ops : List Operation) (outcomes : Every SmallFields ops) (axes : List (List ℕ)) where
  barrier_line : (op : Operation) (kind : Kind) (a s : ℕ) → Stops kind → op.outcome ≤ largest_outcome
      → result_op word axes (result_line (barrier_record op kind a s)) ≡ result_op word axes (barrier_record op kind a s)
  unfolding result_op result_op_of_kind result_line barrier_record
  barrier_line op rotate a s k h = absurd k
  barrier_line op measure a s k h = ap (λ (m : ℕ). measured_op (sign_read (sign_field s)) (axis_word word axes a) m) (outcome_read op.outcome h)
  barrier_line op conditional a s k h =
      ap (λ (m : ℕ). given_outcome (eighth (pos (with_sign s op.angle))) (axis_word word axes a) m) (outcome_read op.outcome h)

  item_line : (i : Item) → ItemStands ops i → result_op word axes (result_line (item_record ops i)) ≡ result_op word axes (item_record ops i)
  unfolding item_record
  item_line (rotation r) h = unfold result_op result_op_of_kind result_line in refl
  item_line (barrier o a s) h = barrier_line (operation_at ops o) (operation_at ops o).kind a s h.0 ((fields_at ops outcomes o).1 h.0)

  item_lines : (is : List Item) → Every (ItemStands ops) is
      → map (result_op word axes) (map result_line (map (item_record ops) is)) ≡ map (result_op word axes) (map (item_record ops) is)
  item_lines [] h = refl
  item_lines (i ∷ is) h = ap₂ (λ (x : Op W) (xs : List (Op W)). x ∷ xs) (item_line i h.0) (item_lines is h.1)

-- ---- an accepted listing

module _ (t : Read) (yes' : listing_answer (some t) ≡ Accepted) where
  abbrev r : Rules
  r = rules_of (options_of t)

  abbrev p : Program
  p = program_of t.job

  -- the work at the end of its run
  abbrev pub listed_end : Work
  listed_end = end_of (rules_of (options_of t)) 8 (program_of t.job)

  -- its operations' outcomes and targets
  pub listed_fields : Every SmallFields (program_of t.job).operations
  listed_fields = program_fields t.job (listed_checks t yes')

  -- ---- its lines

  -- "answer, T before, T after, merges, swaps, absorbed, operations, axes", and M-103's "ninth field"
  abbrev pub listed_first : List ℕ
  listed_first =
      let q = program_of t.job in
      first_line (counters_of (rules_of (options_of t)) q (finish_of (rules_of (options_of t)) 8 q)) listed_end

  -- "operations", "rows", "letters other than I"
  abbrev pub listed_rest : List (List ℕ)
  listed_rest =
      map result_line (operation_results (program_of t.job) listed_end)
      ++ (row_results (program_of t.job) listed_end ++ letter_lines (width (program_of t.job).qubits) 0 listed_end.store.axes)

  -- these are the lines printed
  pub listed_lines : job_lines t ≡ listed_first ∷ listed_rest
  unfolding end_lines
  listed_lines = listed_end_lem t yes'

  -- and its text
  pub listed_text : (text : List ℕ) → read text ≡ some t → listing text ≡ text_of (listed_first ∷ listed_rest)
  unfolding listing lines_of
  listed_text text e = ap (λ (x : Option Read). text_of (lines_of x)) e ∙ ap text_of listed_lines

  -- ---- the lines read again

  abbrev ops : List (List ℕ)
  ops = map result_line (operation_results p listed_end)

  abbrev behind : List (List ℕ)
  behind = row_results p listed_end ++ letter_lines (width p.qubits) 0 listed_end.store.axes

  count : length listed_end.items ≡ length ops
  count =
      sym (length-map (operation_results p listed_end) result_line
      ∙ unfold operation_results in (length-map listed_end.items (item_record p.operations)))

  rows_count : 2 * p.qubits ≡ length (row_results p listed_end)
  rows_count =
      sym (row_results_length p listed_end
      ∙ unfold program_of in (length-map (row_records t.job) row_of ∙ chunks_length 4 (2 * t.job.counts.qubits) t.job.rows))

  -- "operations"
  pub operations_are : operations_read listed_first listed_rest ≡ map result_line (operation_results (program_of t.job) listed_end)
  unfolding operations_read first_line
  operations_are = ap (λ (n : ℕ). take n (ops ++ behind)) count ∙ take_front ops behind

  behind_are : drop (length listed_end.items) (ops ++ behind) ≡ behind
  behind_are = ap (λ (n : ℕ). drop n (ops ++ behind)) count ∙ drop_front ops behind

  -- "rows"
  pub rows_are : rows_read (program_of t.job).qubits listed_first listed_rest ≡ row_results (program_of t.job) listed_end
  unfolding rows_read first_line
  rows_are = ap₂ (λ (n : ℕ) (xs : List (List ℕ)). take n xs) rows_count behind_are ∙ take_front (row_results p listed_end) _

  -- as many operations are printed as there are results
  pub listed_count : length (operations_read listed_first listed_rest) ≡ length (operation_results (program_of t.job) listed_end)
  listed_count = ap length operations_are ∙ length-map (operation_results p listed_end) result_line

  letters_are : letters_read p.qubits listed_first listed_rest ≡ letter_lines (width p.qubits) 0 listed_end.store.axes
  unfolding letters_read first_line
  letters_are = ap₂ (λ (n : ℕ) (xs : List (List ℕ)). drop n xs) rows_count behind_are ∙ drop_front (row_results p listed_end) _

  -- the axes by their letters; the first line says how many there are
  abbrev pub listed_axes : List (List ℕ)
  listed_axes =
      axes_read (width (program_of t.job).qubits) 0 (field_of listed_first 7) (letters_read (program_of t.job).qubits listed_first listed_rest)

  -- they are the run's
  pub listed_axes_lem : listed_axes ≡ listed_end.store.axes
  listed_axes_lem =
      ap (axes_read (width p.qubits) 0 (field_of listed_first 7)) letters_are
      ∙ unfold first_line in (axes_read_lem (width p.qubits) listed_end.store.axes (end_words r 8 p (listed_fine t yes') (listed_hermitian t yes')))

  -- ---- what they mean

  module _ {W : Type 0} (word : List ℕ → W) where
    lines_mean : (axes : List (List ℕ)) → result_ops word axes ops ≡ result_ops word axes (operation_results p listed_end)
    unfolding result_ops operation_results end_of
    lines_mean axes =
        item_lines word p.operations listed_fields axes listed_end.items
        (point_stands p (listed_fine t yes') (listed_hermitian t yes') r (passes_reached (width p.qubits) r (start_of p) r.strategy 8))

    -- the printed operations are the items at the end
    pub listed_ops : result_ops word listed_axes (operations_read listed_first listed_rest)
        ≡ item_ops (axis_word word listed_end.store.axes) (barrier_op word (program_of t.job).operations listed_end.store.axes)
        listed_end.items
    listed_ops =
        ap₂ (λ (axes : List (List ℕ)) (rs : List (List ℕ)). result_ops word axes rs) listed_axes_lem operations_are
        ∙ lines_mean listed_end.store.axes ∙ end_ops p (listed_fine t yes') (listed_hermitian t yes') r word 8

    -- and the printed rows its rows
    pub listed_frame : result_rows word (program_of t.job) listed_axes (rows_read (program_of t.job).qubits listed_first listed_rest)
        ≡ work_rows word (program_of t.job) listed_end
    listed_frame =
        ap₂ (λ (axes : List (List ℕ)) (rs : List (List ℕ)). result_rows word p axes rs) listed_axes_lem rows_are
        ∙ end_rows p (listed_fine t yes') (listed_hermitian t yes') r word 8
