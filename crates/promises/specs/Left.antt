-- What an accepted call of Rewriting leaves, read off the lent slices alone: operations, rows and axis words. Assumes nothing.
use Rattle.std.specs.Prelude.{◌≡◌, ◌⊎◌, Bool, true, false, eqb, replicate}
use Rattle.std.proofs.Math.Path.{refl}
use Rattle.std.proofs.Common.{sym, ap, ap₂, ◌∙◌, inl, inr, arith}
use mathlib.Core.List.{List, [], ◌∷◌, map, flatten}
use Prim.Native.Nat.{ℕ, zero, suc, ◌-◌, ◌*◌, ◌/◌, ◌≤◌, ◌<◌}
use Rattle.std.proofs.Math.ListN.{length}
use Rattle.std.proofs.lemmas.List.{length-map}
use Rattle.store.specs.Chunk.{chunks, chunks_at, chunks_length}
use Rattle.pauli.specs.Word.{width}
use Rattle.model.specs.declared.Options.{Options}
use Rattle.model.specs.Answers.{Accepted}
use Rattle.model.specs.declared.Counters.{Counters}
use Rattle.model.specs.Lists.{when◌then◌else◌}
use Rattle.model.specs.Program.{field_of, records, Job, operation_records, Kind, rotate, measure, conditional, Operation, operation_of}
use Rattle.model.specs.Program.{PauliRef, Program, program_of}
use Rattle.model.specs.Rules.{rules_of}
use Rattle.model.specs.Words.{id_of, word_of}
use Rattle.model.specs.Roots.{is_root}
use Rattle.model.specs.Packing.{SignedAxis}
use Rattle.model.specs.Items.{Item, rotation, barrier}
use Rattle.model.specs.Rounds.{Work}
use Rattle.model.specs.Run.{start_of, end_of}
use Rattle.model.specs.Results.{operation_at, barrier_record, item_record, operation_results, kept_row, given_row, row_record, axes_left}
use Rattle.model.specs.Results.{row_results_from, row_results}
use Rattle.model.specs.Checking.{Lent, words_asked}
use Rattle.model.specs.Rewriting.{then_zeros, accepted, Called}
use Rattle.theory.specs.Cases.{by_if}
use Rattle.theory.specs.Every.{Every, map_every}
use Rattle.theory.specs.Ids.{id_first, id_word}
use Rattle.theory.specs.StreamState.{axis_of}
use Rattle.theory.specs.AcceptedRun.{hermitian_peak}
use Rattle.theory.specs.Called.{answer_is, lent_is}
use Rattle.theory.specs.TCountCalls.{accepted_checks, accepted_within, accepted_hermitian, accepted_reply}
use Rattle.words_wellformed.specs.Wellformed.{IdsInRange, end_ids, end_distinct}
use Rattle.run_wellformed.specs.Memory.{axes_within, width_positive}
use Rattle.run_wellformed.specs.Points.{passes_reached}
use Rattle.run_wellformed.specs.RunWellFormed.{end_formed}
use Rattle.run_wellformed.specs.Lengths.{operations_fit, long_enough, same_lengths}
use Rattle.effect.specs.Effect.{effect_from}
use Rattle.effect.specs.Packed as PackedWords
use Rattle.stream_effect.specs.PackedAxes.{packed_word}
use Rattle.result_effect.specs.Definitions.{result_op_of_kind, result_op, result_ops, result_row, result_rows}
use Rattle.result_effect.specs.Records.{Stops, ItemStands, point_stands}
use Rattle.result_effect.specs.Calls.{call_fine, call_hermitian, left_axes_lem, left_rows_lem}
use Rattle.run_effect.specs.Same.{picked}
use Rattle.run_effect.specs.RunEffect.{result_effect}
use Rattle.promises.specs.Slices.{kinds_read, HasKind, kinds_read_lem, zeros_at}

-- ---- reading the slices of a job

-- "operations (kind, id, sign, angle, outcome, target)", "then zeros": the records that have a kind
abbrev pub operations_in : Job → Lent → List (List ℕ)
operations_in j t = kinds_read j.counts.operations t.operations

-- "rows (qubit, row, id, sign)": two for each qubit
abbrev pub rows_in : Job → Lent → List (List ℕ)
rows_in j t = records 4 (2 * j.counts.qubits) t.rows

-- the words of the word store by id, 2 × l numbers each: the axis words, and the zeros behind them
abbrev pub words_in : Job → Lent → List (List ℕ)
words_in j t = let l = width (program_of j).qubits in chunks (2 * l) (length t.words / (2 * l)) t.words

-- ---- records of operations have kinds

barrier_kind : (op : Operation) (kind : Kind) (a s : ℕ) → Stops kind → HasKind (barrier_record op kind a s)
unfolding barrier_record
barrier_kind op rotate a s h = absurd h
barrier_kind op measure a s h = record { long = refl; kind = refl }
barrier_kind op conditional a s h = record { long = refl; kind = refl }

items_kind : (ops : List Operation) (is : List Item) → Every (ItemStands ops) is → Every HasKind (map (item_record ops) is)
unfolding item_record
items_kind ops [] h = tt
items_kind ops (rotation r ∷ is) h = (record { long = refl; kind = refl }, items_kind ops is h.1)
items_kind ops (barrier o a s ∷ is) h = (barrier_kind (operation_at ops o) (operation_at ops o).kind a s h.0.0, items_kind ops is h.1)

-- ---- ids in records are in range

abbrev pub IdIn : ℕ → List ℕ → Type 0
IdIn n r = field_of r 1 < n

barrier_id : (op : Operation) (kind : Kind) (a s n : ℕ) → Stops kind → a < n → IdIn n (barrier_record op kind a s)
unfolding barrier_record
barrier_id op rotate a s n h k = absurd h
barrier_id op measure a s n h k = k
barrier_id op conditional a s n h k = k

items_id : (ops : List Operation) (n : ℕ) (is : List Item) → Every (ItemStands ops) is → Every (λ i. axis_of i < n) is
    → Every (IdIn n) (map (item_record ops) is)
unfolding item_record
items_id ops n [] h k = tt
items_id ops n (rotation r ∷ is) h k = (k.0, items_id ops n is h.1 k.1)
items_id ops n (barrier o a s ∷ is) h k =
    (barrier_id (operation_at ops o) (operation_at ops o).kind a s n h.0.0 k.0, items_id ops n is h.1 k.1)

-- a row is kept, or its id is in range
abbrev RowIdIn : ℕ → List ℕ → Type 0
RowIdIn n r = (eqb (field_of r 3) 0 ≡ true) ⊎ (field_of r 2 < n)

abbrev pub AxisIn : ℕ → SignedAxis → Type 0
AxisIn n f = f.axis < n

row_id : (n : ℕ) (b : Bool) (i : ℕ) (fs : List SignedAxis) → Every (AxisIn n) fs → RowIdIn n (row_record b i fs)
unfolding row_record kept_row given_row
row_id n false i fs h = inl refl
row_id n true i [] h = inl refl
row_id n true i (f ∷ fs) h = inr h.0

-- so for the rows that are left
pub left_in : (n : ℕ) (b : Bool) (fs : List SignedAxis) → Every (AxisIn n) fs → Every (AxisIn n) (axes_left b fs)
unfolding axes_left
left_in n false fs h = h
left_in n true [] h = tt
left_in n true (f ∷ fs) h = h.1

rows_id : (p : Program) (n i : ℕ) (rs : List PauliRef) (fs : List SignedAxis) → Every (AxisIn n) fs
    → Every (RowIdIn n) (row_results_from p i rs fs)
unfolding row_results_from
rows_id p n i [] fs h = tt
rows_id p n i (r ∷ rs) fs h =
    (row_id n (is_root p r) i fs h, rows_id p n (suc i) rs (axes_left (is_root p r) fs) (left_in n (is_root p r) fs h))

-- ---- words behind the axes do not matter

module _ {W : Type 0} (word : List ℕ → W) (A B : List (List ℕ)) (same : (a : ℕ) → a < length A → word_of B a ≡ word_of A a) where
  op_same : (k : ℕ) (r : List ℕ) → IdIn (length A) r → result_op_of_kind word B k r ≡ result_op_of_kind word A k r
  unfolding result_op_of_kind
  op_same zero r h = rw (same 0 (omega arith)) refl
  op_same (suc zero) r h = rw (same (field_of r 1) h) refl
  op_same (suc (suc zero)) r h = rw (same (field_of r 1) h) refl
  op_same (suc (suc (suc zero))) r h = rw (same (field_of r 1) h) refl
  op_same (suc (suc (suc (suc k)))) r h = rw (same 0 (omega arith)) refl

  ops_same : (rs : List (List ℕ)) → Every (IdIn (length A)) rs → result_ops word B rs ≡ result_ops word A rs
  unfolding result_ops result_op
  ops_same rs h = map_every (IdIn (length A)) (result_op word B) (result_op word A) (λ r. op_same (field_of r 0) r) rs h

  row_same : (p : Program) (r : List ℕ) → RowIdIn (length A) r → result_row word p B r ≡ result_row word p A r
  unfolding result_row when◌then◌else◌
  row_same p r (inl h) = rw h refl
  row_same p r (inr h) = rw (same (field_of r 2) h) refl

  rows_same : (p : Program) (rs : List (List ℕ)) → Every (RowIdIn (length A)) rs → result_rows word p B rs ≡ result_rows word p A rs
  unfolding result_rows
  rows_same p rs h = map_every (RowIdIn (length A)) (result_row word p B) (result_row word p A) (row_same p) rs h

  -- a scan of all finds an axis's word at its id, where a scan of the axes does
  id_same : length A ≤ length B → (a : ℕ) → a < length A → id_of A (word_of A a) ≡ a → id_of B (word_of B a) ≡ a
  id_same long a h e =
      let w = word_of B a in
      let low : id_of B w ≤ a = id_first B w a (omega arith) refl in
      let found : word_of A (id_of B w) ≡ word_of A a = sym (same (id_of B w) (omega arith)) ∙ id_word B w (omega arith) ∙ same a h in
      let high : id_of A (word_of A a) ≤ id_of B w = id_first A (word_of A a) (id_of B w) (omega arith) found in
      omega arith

-- ---- an accepted call

module _ {o : Options} {j : Job} {s : Lent} {c : Counters} {m n : ℕ} {t : Lent} (call : Called o j s Accepted c m n t) where
  abbrev p : Program
  p = program_of j

  -- the work at the end of its run
  abbrev end : Work
  end = end_of (rules_of o) o.rounds (program_of j)

  abbrev l : ℕ
  l = width p.qubits

  stand : Every (ItemStands p.operations) end.items
  unfolding end_of
  stand =
      point_stands p (call_fine o j s (answer_is call)) (call_hermitian o j s (answer_is call)) (rules_of o)
      (passes_reached l (rules_of o) (start_of p) (rules_of o).strategy o.rounds)

  count : length (operation_results p end) ≤ j.counts.operations
  count =
      let a : length (operation_results p end) ≡ length end.items
      = unfold operation_results in (length-map end.items (item_record p.operations)) in
      let b : length p.operations ≡ j.counts.operations
      = unfold program_of in (length-map (operation_records j) operation_of ∙ chunks_length 6 j.counts.operations j.operations) in
      omega (arith, operations_fit (rules_of o) o.rounds p)

  -- the operations that came out
  pub operations_left : operations_in j t ≡ operation_results (program_of j) (end_of (rules_of o) o.rounds (program_of j))
  unfolding accepted then_zeros operation_results
  operations_left =
      let n = length s.operations - length (flatten (operation_results p end)) in
      let kinds : Every HasKind (operation_results p end) = items_kind p.operations end.items stand in
      rw (← lent_is call, accepted_reply o j s (answer_is call))
      (kinds_read_lem j.counts.operations (operation_results p end) (replicate n 0) kinds count (zeros_at n 0))

  -- the rows
  pub rows_left : rows_in j t ≡ row_results (program_of j) (end_of (rules_of o) o.rounds (program_of j))
  rows_left = rw (← lent_is call) (left_rows_lem o j s (answer_is call))

  axes_count : length end.store.axes ≤ length t.words / (2 * l)
  unfolding words_asked
  axes_count =
      let yes' = answer_is call in
      let room = (long_enough o j s (accepted_checks o j s yes')).words in
      let long : length t.words ≡ length s.words = rw (← lent_is call) (same_lengths o j s).words in
      axes_within l (length t.words) (width_positive p.qubits) end.store
      (end_formed p (call_fine o j s yes') (rules_of o) o.rounds).fits
      (omega (arith, accepted_within o j s yes', hermitian_peak (rules_of o) o.rounds p (accepted_hermitian o j s yes')))

  -- the axis words by id
  pub words_left : (a : ℕ) → a < length (end_of (rules_of o) o.rounds (program_of j)).store.axes
      → word_of (words_in j t) a ≡ word_of (end_of (rules_of o) o.rounds (program_of j)).store.axes a
  words_left a h =
      chunks_at (2 * l) (length t.words / (2 * l)) t.words a (omega (arith, axes_count))
      ∙ rw (← lent_is call) (sym (chunks_at (2 * l) (length end.store.axes) _ a h))
      ∙ ap (λ (A : List (List ℕ)). word_of A a) (left_axes_lem o j s (answer_is call))

  -- a scan of the word store finds each axis's word at its id
  pub ids_scanned : (a : ℕ) → a < length (end_of (rules_of o) o.rounds (program_of j)).store.axes
      → id_of (words_in j t) (word_of (words_in j t) a) ≡ a
  ids_scanned a h =
      id_same (λ (w : List ℕ). w) end.store.axes (words_in j t) words_left
      (omega (arith, axes_count, chunks_length (2 * l) (length t.words / (2 * l)) t.words)) a h
      (end_distinct (rules_of o) o.rounds p (call_fine o j s (answer_is call)) (call_hermitian o j s (answer_is call)) a h)

  ids : IdsInRange end
  ids = end_ids (rules_of o) o.rounds p (call_fine o j s (answer_is call)) (call_hermitian o j s (answer_is call))

  -- every operation's id is in range
  pub records_in : Every (IdIn (length (end_of (rules_of o) o.rounds (program_of j)).store.axes))
      (operation_results (program_of j) (end_of (rules_of o) o.rounds (program_of j)))
  unfolding operation_results
  records_in = items_id p.operations (length end.store.axes) end.items stand ids.items

  module _ {W : Type 0} (word : List ℕ → W) where
    -- read with the words of the word store, operations and rows mean what they mean with the run's axes
    pub operations_mean : result_ops word (words_in j t) (operations_in j t) ≡ result_ops word end.store.axes (operation_results p end)
    operations_mean =
        ap (result_ops word (words_in j t)) operations_left
        ∙ ops_same word end.store.axes (words_in j t) words_left (operation_results p end) records_in

    pub rows_mean : result_rows word p (words_in j t) (rows_in j t) ≡ result_rows word p end.store.axes (row_results p end)
    rows_mean =
        ap (result_rows word p (words_in j t)) rows_left
        ∙ rows_same word end.store.axes (words_in j t) words_left p (row_results p end)
        (unfold row_results in (rows_id p (length end.store.axes) 0 p.rows _
        (by_if (Every (AxisIn (length end.store.axes))) _ [] _ tt ids.rows)))

  -- so what lies in the slices has the effect of the run's results
  pub effect_left : (outcomes : ℕ → Bool) (ns : List ℕ)
      → result_effect (program_of j) (words_in j t) (operations_in j t) (rows_in j t) outcomes ns
      ≡ result_effect p end.store.axes (operation_results p end) (row_results p end) outcomes ns
  effect_left outcomes ns =
      ap₂ (λ X Y. effect_from (PackedWords.packed l) outcomes X (picked (PackedWords.packed l) ns Y))
      (operations_mean (packed_word l)) (rows_mean (packed_word l))
