-- Results, axes and zeros fit the lent slices: a call of Rewriting leaves every slice as long as it was. Assumes nothing.
use Rattle.std.specs.Prelude.{◌≡◌, Bool, true, ◌||◌, ℕ, suc, ◌+◌, ◌-◌, ◌*◌, ◌≤◌, ◌<◌, ltb, length, replicate}
use Rattle.std.proofs.Math.Path.{refl, ap}
use Rattle.std.proofs.Common.{sym, ◌∙◌, le_trans, suc-mul, zero-mul, arith, length-append, ltb-true, ltb-false}
use Rattle.std.proofs.Math.Bool.{false}
use mathlib.Core.List.{List, [], ◌∷◌, map, flatten}
use Rattle.std.proofs.lemmas.List.{length-map, length-replicate}
use Rattle.store.specs.Chunk.{chunks_length}
use Rattle.pauli.specs.Word.{width, IsWord}
use Rattle.model.specs.declared.Options.{Options}
use Rattle.model.specs.Answers.{Answer, Accepted, CountOutside, OptionOutside, SliceShort, NonHermitianAxis, ExpansionLimit}
use Rattle.model.specs.Lists.{sum_of}
use Rattle.model.specs.Interface.{accepts}
use Rattle.model.specs.Program.{Job, operation_records, row_records, Kind, rotate, measure, conditional, Operation, operation_of, PauliRef, row_of}
use Rattle.model.specs.Program.{Program}
use Rattle.model.specs.Program.{program_of}
use Rattle.model.specs.Rules.{Rules, rules_of}
use Rattle.model.specs.Words.{Value, word_of, Store}
use Rattle.model.specs.Roots.{is_root, operation_root}
use Rattle.model.specs.Packing.{values_of, packed, SignedAxis, signed_axis}
use Rattle.model.specs.Items.{Item, rotation, barrier}
use Rattle.model.specs.Rounds.{Work}
use Rattle.model.specs.Run.{item_of, items_from, start_of, end_of, end_answer}
use Rattle.model.specs.Results.{operation_at, barrier_record, item_record, operation_results, kept_row, given_row, row_record, axes_left, row_results_from}
use Rattle.model.specs.Results.{row_results}
use Rattle.model.specs.Checking.{Lent, bad_count, bad_option, words_asked, numbers_asked, program_short, lent_short, check_records, checking}
use Rattle.model.specs.Rewriting.{then_zeros, zeros, refused, stopped, accepted, after_ending, rewriting}
use Rattle.theory.specs.Cases.{by_if, neither}
use Rattle.theory.specs.Lists.{flatten_length}
use Rattle.theory.specs.TCount.{passes_length}
use Rattle.theory.specs.Checked.{accepts_only, not_refused, checked_fine}
use Rattle.theory.specs.Replies.{run_of, limit_of, refused_reply, beyond_limit, within_limit, run_answer}
use Rattle.theory.specs.Limit.{within_answer}
use Rattle.theory.specs.AcceptedRun.{hermitian_ending, hermitian_peak, refused_ending}
use Rattle.theory.specs.TCountCalls.{accepted_checks, accepted_within, accepted_hermitian, accepted_reply}
use Rattle.words_wellformed.specs.Wellformed.{end_words}
use Rattle.run_wellformed.specs.Memory.{StoreFits}
use Rattle.run_wellformed.specs.RunWellFormed.{end_formed}

-- each slice is as long as before
pub record SameLengths (s s' : Lent) : Type 0 where
  pub words : length s'.words ≡ length s.words
  pub numbers : length s'.numbers ≡ length s.numbers
  pub operations : length s'.operations ≡ length s.operations
  pub rows : length s'.rows ≡ length s.rows

-- ---- zeros

then_zeros_length : (s xs : List ℕ) → length xs ≤ length s → length (then_zeros s xs) ≡ length s
unfolding then_zeros
then_zeros_length s xs h =
    let z : length (replicate {A = ℕ} (length s - length xs) 0) ≡ length s - length xs = length-replicate (length s - length xs) 0 in
    omega (arith, length-append xs (replicate (length s - length xs) 0))

zeros_length : (s : List ℕ) → length (zeros s) ≡ length s
unfolding zeros
zeros_length s = length-replicate (length s) 0

-- ---- axis words

words_length : (l : ℕ) (axes : List (List ℕ)) → ((a : ℕ) → a < length axes → IsWord l (word_of axes a))
    → sum_of length axes ≡ length axes * (2 * l)
unfolding sum_of
words_length l [] h = sym (zero-mul (2 * l))
words_length l (w ∷ axes) h =
    let e : suc (length axes) * (2 * l) ≡ length axes * (2 * l) + 2 * l = suc-mul (length axes) (2 * l) in
    let one : length w ≡ 2 * l = (h 0 (omega arith)).long in
    omega (arith, words_length l axes (λ a b. h (suc a) (omega arith)))

-- the axes' words are no more than the largest sum that was tested
pub axes_fit : (l : ℕ) (st : Store) → ((a : ℕ) → a < length st.axes → IsWord l (word_of st.axes a)) → StoreFits l st
    → length (flatten st.axes) ≤ st.peak
axes_fit l st words room = omega (arith, flatten_length st.axes, words_length l st.axes words)

-- ---- operations: one record for each item, one item at most for each operation

barrier_record_length : (op : Operation) (kind : Kind) (a s : ℕ) → length (barrier_record op kind a s) ≤ 6
unfolding barrier_record
barrier_record_length op rotate a s = omega arith
barrier_record_length op measure a s = omega arith
barrier_record_length op conditional a s = omega arith

item_record_length : (ops : List Operation) (i : Item) → length (item_record ops i) ≤ 6
unfolding item_record
item_record_length ops (rotation r) = omega arith
item_record_length ops (barrier o a s) = barrier_record_length (operation_at ops o) (operation_at ops o).kind a s

records_sum : (ops : List Operation) (is : List Item) → sum_of length (map (item_record ops) is) ≤ 6 * length is
unfolding sum_of
records_sum ops [] = omega arith
records_sum ops (i ∷ is) = omega (arith, records_sum ops is, item_record_length ops i)

item_of_length : (axes : List (List ℕ)) (o : ℕ) (kind : Kind) (f : SignedAxis) (k : ℕ) → length (item_of axes o kind f k) ≤ 1
unfolding item_of
item_of_length axes o rotate f k = by_if (λ (x : List Item). length x ≤ 1) _ [] _ (omega arith) (omega arith)
item_of_length axes o measure f k = omega arith
item_of_length axes o conditional f k = omega arith

items_from_length : (axes : List (List ℕ)) (vs : List Value) (o : ℕ) (ops : List Operation) → length (items_from axes vs o ops) ≤ length ops
unfolding items_from
items_from_length axes vs o [] = omega arith
items_from_length axes vs o (op ∷ ops) =
    let one = item_of axes o op.kind (signed_axis axes vs (operation_root op)) op.angle in
    omega (
      arith,
      length-append one (items_from axes vs (suc o) ops),
      item_of_length axes o op.kind (signed_axis axes vs (operation_root op)) op.angle,
      items_from_length axes vs (suc o) ops,
    )

-- no more operations come out than were handed in
pub operations_fit : (r : Rules) (rounds : ℕ) (p : Program) → length (end_of r rounds p).items ≤ length p.operations
unfolding end_of start_of
operations_fit r rounds p =
    le_trans (passes_length r.strategy (width p.qubits) r rounds (start_of p))
    (unfold start_of in (items_from_length _ (values_of p) 0 p.operations))

-- their records are at most 6 numbers each
pub operation_records_fit : (p : Program) (w : Work) → length (flatten (operation_results p w)) ≤ 6 * length w.items
unfolding operation_results
operation_records_fit p w = omega (arith, flatten_length (map (item_record p.operations) w.items), records_sum p.operations w.items)

-- ---- rows: one record each

row_record_length : (b : Bool) (i : ℕ) (fs : List SignedAxis) → length (row_record b i fs) ≡ 4
unfolding row_record kept_row given_row
row_record_length false i fs = refl
row_record_length true i [] = refl
row_record_length true i (f ∷ fs) = refl

rows_sum : (p : Program) (i : ℕ) (rs : List PauliRef) (fs : List SignedAxis) → sum_of length (row_results_from p i rs fs) ≡ 4 * length rs
unfolding row_results_from sum_of
rows_sum p i [] fs = refl
rows_sum p i (r ∷ rs) fs = omega (arith, rows_sum p (suc i) rs (axes_left (is_root p r) fs), row_record_length (is_root p r) i fs)

-- 4 numbers for each row
pub row_records_fit : (p : Program) (w : Work) → length (flatten (row_results p w)) ≡ 4 * length p.rows
unfolding row_results
row_records_fit p w = flatten_length (row_results_from p 0 p.rows _) ∙ rows_sum p 0 p.rows _

-- ---- calls

-- what 3 asks for
pub record LongEnough (j : Job) (s : Lent) (limit : ℕ) : Type 0 where
  pub words : words_asked (width j.counts.qubits) limit ≤ length s.words
  pub numbers : numbers_asked (width j.counts.qubits) j.counts limit ≤ length s.numbers
  pub operations : 6 * j.counts.operations ≤ length s.operations
  pub rows : 8 * j.counts.qubits ≤ length s.rows

-- where Checking passes, it was not refused
pub long_enough : (o : Options) (j : Job) (s : Lent) → checking o j s ≡ Accepted → LongEnough j s (limit_of o)
unfolding checking lent_short words_asked
long_enough o j s c =
    let l = width j.counts.qubits in
    let a = not_refused (bad_count j.counts) CountOutside _ refl c in
    let b = not_refused (bad_option o) OptionOutside _ refl a.1 in
    let d = (neither (program_short j) _ (not_refused _ SliceShort (check_records o.lazy_cliffords j) refl b.1).0).1 in
    let e = neither (ltb (length s.words) (limit_of o + 16 * l) || ltb (length s.numbers) (numbers_asked l j.counts (limit_of o))
    || ltb (length s.operations) (6 * j.counts.operations)) (ltb (length s.rows) (8 * j.counts.qubits)) d in
    let f = neither (ltb (length s.words) (limit_of o + 16 * l) || ltb (length s.numbers) (numbers_asked l j.counts (limit_of o))) _
    e.0 in
    let g = neither (ltb (length s.words) (limit_of o + 16 * l)) _ f.0 in
    record {
      words = ltb-false (length s.words) (limit_of o + 16 * l) g.0;
      numbers = ltb-false (length s.numbers) (numbers_asked l j.counts (limit_of o)) g.1;
      operations = ltb-false (length s.operations) (6 * j.counts.operations) f.1;
      rows = ltb-false (length s.rows) (8 * j.counts.qubits) e.1;
    }

operations_length : (j : Job) → length (program_of j).operations ≡ j.counts.operations
unfolding program_of
operations_length j = length-map (operation_records j) operation_of ∙ chunks_length 6 j.counts.operations j.operations

rows_length : (j : Job) → length (program_of j).rows ≡ 2 * j.counts.qubits
unfolding program_of
rows_length j = length-map (row_records j) row_of ∙ chunks_length 4 (2 * j.counts.qubits) j.rows

stopped_lengths : (a : Answer) (s : Lent) → SameLengths s (stopped a s).lent
unfolding stopped
stopped_lengths a s = record { words = zeros_length s.words; numbers = zeros_length s.numbers; operations = refl; rows = refl }

module _ (o : Options) (j : Job) (s : Lent) where
  accepted_lengths : (rewriting o j s).answer ≡ Accepted → SameLengths s (rewriting o j s).lent
  unfolding words_asked
  accepted_lengths yes' =
      let p = program_of j in
      let r = rules_of o in
      let c = accepted_checks o j s yes' in
      let long = long_enough o j s c in
      let fine = checked_fine o j s c in
      let e = end_of r o.rounds p in
      let peak : e.store.peak ≤ limit_of o = accepted_end_peak in
      let words = end_words r o.rounds p fine (accepted_hermitian o j s yes') in
      let room = (end_formed p fine r o.rounds).fits in
      rw (accepted_reply o j s yes') (unfold accepted in (record {
        words = then_zeros_length s.words _ (omega (arith, axes_fit (width p.qubits) e.store words room, long.words));
        numbers = zeros_length s.numbers;
        operations = then_zeros_length s.operations _
            (omega (arith, operation_records_fit p e, operations_fit r o.rounds p, operations_length j, long.operations));
        rows = then_zeros_length s.rows _ (omega (arith, row_records_fit p e, rows_length j, long.rows));
      }))
    where
      accepted_end_peak : (end_of (rules_of o) o.rounds (program_of j)).store.peak ≤ limit_of o
      accepted_end_peak =
          omega (arith, accepted_within o j s yes', hermitian_peak (rules_of o) o.rounds (program_of j) (accepted_hermitian o j s yes'))

  within_lengths : checking o j s ≡ Accepted → (run_of o j).peak ≤ limit_of o → SameLengths s (rewriting o j s).lent
  within_lengths c h = go (packed (program_of j)).refused refl
    where
      go : (t : Bool) → (packed (program_of j)).refused ≡ t → SameLengths s (rewriting o j s).lent
      go true e =
          let f : rewriting o j s ≡ stopped NonHermitianAxis s
          = within_limit o j s c h ∙ ap (after_ending (rules_of o) (program_of j) s) (refused_ending (rules_of o) o.rounds (program_of j) e)
          ∙ unfold after_ending in refl in
          rw f (stopped_lengths NonHermitianAxis s)
      go false e =
          accepted_lengths
          (run_answer o j s c ∙ within_answer (limit_of o) (run_of o j) h ∙ ap end_answer (hermitian_ending (rules_of o) o.rounds (program_of j) e))

  -- whatever a call is handed and answers, every lent slice is as long as it was
  pub same_lengths : SameLengths s (rewriting o j s).lent
  same_lengths = go (accepts (checking o j s)) refl
    where
      ran' : checking o j s ≡ Accepted → (t : Bool) → ltb (limit_of o) (run_of o j).peak ≡ t → SameLengths s (rewriting o j s).lent
      ran' c true e = rw (beyond_limit o j s c (ltb-true (limit_of o) (run_of o j).peak e)) (stopped_lengths ExpansionLimit s)
      ran' c false e = within_lengths c (ltb-false (limit_of o) (run_of o j).peak e)

      go : (t : Bool) → accepts (checking o j s) ≡ t → SameLengths s (rewriting o j s).lent
      go true e = ran' (accepts_only (checking o j s) e) (ltb (limit_of o) (run_of o j).peak) refl
      go false e =
          rw (refused_reply o j s (checking o j s) refl e)
          (unfold refused in (record { words = refl; numbers = refl; operations = refl; rows = refl }))
