-- The three demands about Rewriting, as theorems about its calls. `Called o j s a c m n t` (model, Rewriting): with options o, job j and slices
-- s lent the code answered a, counted c, m operations and n axes, and left the slices t. It is what `rewriting::rewriting` ensures, for all
-- arguments; what the library's call ensures gives it too (library_promises). Stores of two calls may differ in length and content.
-- Under each promise stand two wrong programs that it rules out. Assumes nothing.
use Rattle.std.proofs.Math.Path.{◌≡◌, refl, sym, ap}
use Rattle.std.proofs.Common.{ap₂, ◌∙◌, subst, inl, inr, ⊎_elim, arith}
use Rattle.std.specs.Prelude.{◌⊎◌, ◌↔◌, Bool, true, false, ℕ, ◌+◌, ◌-◌, ◌≤◌, ◌<◌}
use mathlib.Core.List.{List, ◌++◌, flatten}
use Rattle.std.proofs.Math.ListN.{length, length-map}
use Rattle.groups.specs.Abelian.{pow2}
use Rattle.pauli.specs.Word.{width}
use Rattle.model.specs.declared.Strategy.TheVariants.{Merge, Litinski}
use Rattle.model.specs.declared.Lazy.TheVariants.{Off, From}
use Rattle.model.specs.declared.Options.{Options}
use Rattle.model.specs.Answers.{Answer, Accepted, SliceShort, OptionOutside, NonHermitianAxis, ExpansionLimit}
use Rattle.model.specs.declared.Counters.{Counters}
use Rattle.model.specs.Interface.{number_of, accepts, of_checking, no_counters}
use Rattle.model.specs.Program.{Job, operation_records, Program, program_of}
use Rattle.model.specs.Rules.{rules_of}
use Rattle.model.specs.Words.{id_of, word_of}
use Rattle.model.specs.Rounds.{Work, merge_rounds, litinski_rounds}
use Rattle.model.specs.Run.{Run, start_of, answer_of}
use Rattle.model.specs.Results.{item_record, operation_results, row_results, source_t_count, result_t_count, counters_of}
use Rattle.model.specs.Checking.{Lent, checking}
use Rattle.model.specs.Rewriting.{Reply, then_zeros, zeros, refused, stopped, accepted, rewriting, Called}
use Rattle.theory.specs.Alike.{Alike, alike_program}
use Rattle.theory.specs.Called.{answer_is, counters_are, operations_are, axes_are, lent_is}
use Rattle.theory.specs.Replies.{run_of, limit_of, refused_answer, run_answer, refusal_answer}
use Rattle.theory.specs.Checked.{limit_fits, checking_options}
use Rattle.theory.specs.Limit.{SameButLimit, run_same, checks_again, same_at_larger_limit, results_answer, results_counters}
use Rattle.theory.specs.AcceptedRun.{finish_of, hermitian_peak}
use Rattle.theory.specs.TCountCalls.{accepted_hermitian, accepted_counters, accepted_operations, accepted_axes, accepted_reply}
use Rattle.theory.specs.TCountCalls.{no_more_than_source, no_more_with_more_rounds}
use Rattle.theory.specs.EqualRounds.{equal_rounds}
use Rattle.theory.specs.Hermitian.{Hermitian, accepted_exactly, limit_exactly}
use Rattle.theory.specs.WithoutExchange.{in_order, reply_in_order}
use Rattle.theory.specs.WithoutAbsorption.{lazily, reply_unnamed}
use Rattle.run_wellformed.specs.Points.{Reached}
use Rattle.run_wellformed.specs.Lengths.{SameLengths, same_lengths}
use Rattle.result_effect.specs.Calls.{call_fine, call_hermitian}
use Rattle.run_effect.specs.RunEffect.{Effects, source_effect, result_effect, run_keeps_effect}
use Rattle.cutting.specs.Outcomes.{NamesNone}
use Rattle.cutting.proofs.Outcomes.{names_none}
use Rattle.promises.specs.Slices.{Agree, agree_then, agree_zeros}
use Rattle.promises.specs.Calls.{Replied, by_checking, by_limit, by_root, done, called_of, passed_checking, nine_exactly}
use Rattle.promises.specs.Calls.{number_low, number_checking, number_stopped, PlaceRefused, sixteen_where}
use Rattle.promises.specs.Calls.{refused_where, ShortRefused, three_parts, short_from}
use Rattle.promises.specs.Named.{ChangesAt, stream_changes}
use Rattle.promises.specs.Strategies.{end_work, merge_end, litinski_end, no_rounds_end}
use Rattle.promises.specs.Left.{operations_in, rows_in, words_in, operations_left, ids_scanned, effect_left}
use Rattle.promises.specs.Alike.{SameOptionsButLimit, AlikeButRoundsAndLimit, AlikeButLimit, rules_alike_by, but_limit_by, not_two}
use Rattle.promises.specs.Cut.{OneRound, CutAtMeasurement, worded_in, merges_only_by, parts_add_up, operations_passed}

-- ==== what the sentences speak of

-- t is what 9 and 10 leave of s: both work stores zero over their whole length, the results as they were. The program is only read
pub record Cleared (s t : Lent) : Type 0 where
  pub words : t.words ≡ zeros s.words
  pub numbers : t.numbers ≡ zeros s.numbers
  pub operations : t.operations ≡ s.operations
  pub rows : t.rows ≡ s.rows

-- t is what acceptance of a program p with the work w leaves of s: "results, then zeros; axis words, then zeros; number store zero"
pub record AcceptanceLeaves (p : Program) (w : Work) (s t : Lent) : Type 0 where
  pub operations : t.operations ≡ then_zeros s.operations (flatten (operation_results p w))
  pub rows : t.rows ≡ then_zeros s.rows (flatten (row_results p w))
  pub words : t.words ≡ then_zeros s.words (flatten w.store.axes)
  pub numbers : t.numbers ≡ zeros s.numbers

-- two calls left the same, whatever lengths their slices have: the same numbers at every place, 0 behind a slice's end
pub record SameLeft (t t' : Lent) : Type 0 where
  pub operations : Agree t'.operations t.operations
  pub rows : Agree t'.rows t.rows
  pub words : Agree t'.words t.words
  pub numbers : Agree t'.numbers t.numbers

-- "The source's T-count is taken over the counted operation records handed in"
abbrev pub t_count_handed : Job → ℕ
t_count_handed j = source_t_count (program_of j).operations

-- "a result's over the operations that come out": the records in the lent slice
abbrev pub t_count_left : Job → Lent → ℕ
t_count_left j t = result_t_count (operations_in j t)

-- ==== Demand 1. Memory: "Every call ends and does its own checking. For every input each lent slice holds just what document 01 says"

module _ {o : Options} {j : Job} {s : Lent} {a : Answer} {c : Counters} {m n : ℕ} {t : Lent} (call : Called o j s a c m n t) where
  -- a call answers 0 to 10, or 16 (02, M-112).
  -- Rules out: 11 for a job that Listing would not read; a number of its own for "stores too short to go on"
  pub answers_0_to_10_or_16 : (number_of a ≤ 10) ⊎ (number_of a ≡ 16)
  answers_0_to_10_or_16 = number_low (called_of call)

  -- it does its own checking: where Checking refuses, its answer is the call's.
  -- Rules out: going on with a job whose node 0 is not the identity; answering 10 before the records are checked
  pub checks_itself : accepts (checking o j s) ≡ false → a ≡ checking o j s
  checks_itself n = sym (answer_is call) ∙ refusal_answer o j s n

  -- and 1 to 8 and 16 come from nowhere else.
  -- Rules out: 3 for stores that Checking takes; 8 for an outcome that the passes meet twice; 16 for a named measurement that no rotation follows
  pub only_checking : of_checking (number_of a) ≡ true → a ≡ checking o j s
  only_checking h = ap (λ (x : Reply). x.answer) (number_checking (called_of call) h) ∙ refused_answer (checking o j s) s

  -- "refusals 1 to 8 leave all slices unchanged", 16 "as by 8", and counters are 0, whatever they held before.
  -- Rules out: clearing the number store before refusal 6; counting T before Checking and then refusing
  pub refusals_1_to_8_and_16 : of_checking (number_of a) ≡ true → (t ≡ s) × (c ≡ no_counters)
  refusals_1_to_8_and_16 h =
      let e = number_checking (called_of call) h in
      (ap (λ (x : Reply). x.lent) e ∙ unfold refused in refl, ap (λ (x : Reply). x.counters) e ∙ unfold refused in refl)

  -- "9 and 10 leave program and results unchanged and both work stores zero", and counters are 0.
  -- Rules out: packed words left in the word store after 9; results written as they are found, then 10 in the closing stream
  pub refusals_9_and_10 : 9 ≤ number_of a → number_of a ≤ 10 → Cleared s t × (c ≡ no_counters)
  refusals_9_and_10 h k =
      let e = number_stopped (called_of call) h k in (
        rw (ap (λ (x : Reply). x.lent) e) (unfold stopped in (record { words = refl; numbers = refl; operations = refl; rows = refl })),
        ap (λ (x : Reply). x.counters) e ∙ unfold stopped in refl,
      )

  -- after a refusal no operation and no axis is counted either.
  -- Rules out: how many operations were handed in, told after 4; the axes that were stored when 10 came
  pub nothing_counted : (a ≡ Accepted → ⊥) → (m ≡ 0) × (n ≡ 0)
  unfolding refused stopped
  nothing_counted no' = go (called_of call)
    where
      both : (x : Reply) → ◌≡◌ {A = Reply} (record { answer = a; counters = c; operations = m; axes = n; lent = t }) x
          → (x.operations ≡ 0) × (x.axes ≡ 0) → (m ≡ 0) × (n ≡ 0)
      both x e h = (ap (λ (y : Reply). y.operations) e ∙ h.0, ap (λ (y : Reply). y.axes) e ∙ h.1)

      go : Replied o j s (record { answer = a; counters = c; operations = m; axes = n; lent = t }) → (m ≡ 0) × (n ≡ 0)
      go (by_checking e) = both (refused (checking o j s) s) e (refl, refl)
      go (by_limit e) = both (stopped ExpansionLimit s) e (refl, refl)
      go (by_root e) = both (stopped NonHermitianAxis s) e (refl, refl)
      go (done e) = absurd (no' e)

  -- every slice is as long as it was: the results and the axis words fit.
  -- Rules out: one record too many in the result slice; axis words that run over the word store's end
  pub lengths_kept : SameLengths s t
  lengths_kept = rw (← lent_is call) (same_lengths o j s)

-- "acceptance leaves results, axis words and zeros".
-- Rules out: the slots of packing left behind the axis words; old records left behind the new ones in the result slice
pub acceptance : {o : Options} {j : Job} {s : Lent} {c : Counters} {m n : ℕ} {t : Lent} → Called o j s Accepted c m n t
    → AcceptanceLeaves (program_of j) (end_work o j) s t
unfolding accepted
acceptance {o} {j} {s} call =
    rw (← lent_is call, accepted_reply o j s (answer_is call)) (record { operations = refl; rows = refl; words = refl; numbers = refl })

-- ==== Demand 2. Meaning: "Each pass gives exactly what 01's rules give, as an equation with a definition"

-- Each pass's own contract (crates packing, start, stream, exchange, layering, depth) is an equation with the model's pass; here is what an
-- accepted call leaves, by its options' strategy and rounds
module _ {o : Options} {j : Job} {s : Lent} {c : Counters} {m n : ℕ} {t : Lent} (call : Called o j s Accepted c m n t) where
  -- "Merge strategy: rounds of stream and exchange, until ..; then one more stream if ..": `mergeRounds`, on the packed program.
  -- Rules out: the program handed back untouched; one round that counts for all
  pub merge_results : o.strategy ≡ Merge
      → AcceptanceLeaves (program_of j) (merge_rounds (width j.counts.qubits) (rules_of o) o.rounds (start_of (program_of j))) s t
  merge_results e = rw (← merge_end o j e) (acceptance call)

  -- "Otherwise a stream; then each round layers every segment, ends the work if nothing merged, else streams again": `litinskiRounds`.
  -- Rules out: Merge run for Litinski; streams that merge between the layerings
  pub litinski_results : o.strategy ≡ Litinski
      → AcceptanceLeaves (program_of j) (litinski_rounds (width j.counts.qubits) (rules_of o) o.rounds (start_of (program_of j))) s t
  litinski_results e = rw (← litinski_end o j e) (acceptance call)

  -- "Rounds 0 does nothing", by either strategy: the operations as they were packed.
  -- Rules out: a closing stream without rounds; one stream for rounds 0
  pub no_rounds_results : o.rounds ≡ 0 → AcceptanceLeaves (program_of j) (start_of (program_of j)) s t
  no_rounds_results e = rw (← no_rounds_end o j e) (acceptance call)

module _ {o : Options} {j : Job} {s : Lent} {a : Answer} {c : Counters} {m n : ℕ} {t : Lent} (call : Called o j s a c m n t) where
  -- where Checking passes, the answer is that of 01's run at the limit: 9, 10 or 0, "in Rust's order".
  -- Rules out: refusing all; 9 for a root that is met after a sum above the limit
  pub answer_of_run : checking o j s ≡ Accepted → a ≡ answer_of (limit_of o) (run_of o j)
  answer_of_run h = sym (answer_is call) ∙ run_answer o j s h

  -- 0 exactly where no tested sum exceeds the limit and every root's total phase is even.
  -- Rules out: ExpansionLimit before any sum is tested; accepting a root X with phase 1
  pub accepted_where : checking o j s ≡ Accepted → (a ≡ Accepted) ↔ (((run_of o j).peak ≤ limit_of o) × Hermitian (program_of j))
  accepted_where h =
      (λ e. (accepted_exactly o j s h).0 (answer_is call ∙ e), λ g. sym (answer_is call) ∙ (accepted_exactly o j s h).1 g)

  -- 10 exactly where one does.
  -- Rules out: a limit that counts axes and no images; a test that refuses a sum equal to the limit
  pub limit_where : checking o j s ≡ Accepted → (a ≡ ExpansionLimit) ↔ (limit_of o < (run_of o j).peak)
  limit_where h = (λ e. (limit_exactly o j s h).0 (answer_is call ∙ e), λ g. sym (answer_is call) ∙ (limit_exactly o j s h).1 g)

  -- 9 exactly where none does and a root's total phase is odd.
  -- Rules out: 9 for a row that is no root; an odd phase dropped from a root
  pub non_hermitian_where : checking o j s ≡ Accepted
      → (a ≡ NonHermitianAxis) ↔ (((run_of o j).peak ≤ limit_of o) × (Hermitian (program_of j) → ⊥))
  non_hermitian_where h =
      (λ e. (nine_exactly o j s h).0 (answer_is call ∙ e), λ g. sym (answer_is call) ∙ (nine_exactly o j s h).1 g)

module _ {o : Options} {j : Job} {s : Lent} {c : Counters} {m n : ℕ} {t : Lent} (call : Called o j s Accepted c m n t) where
  -- all twelve counters are those of the run.
  -- Rules out: merge counters made up; T-depths measured where `measure_depth` is off
  pub counters_of_run : c ≡ counters_of (rules_of o) (program_of j) (finish_of (rules_of o) o.rounds (program_of j))
  counters_of_run = sym (counters_are call) ∙ accepted_counters o j s (answer_is call)

  -- the operations that are counted are those that lie in the slice, and the axes those of the run, whose words `acceptance` tells.
  -- Rules out: the operations handed in, counted for those that came out; axes counted by the words that are not 0
  pub operations_and_axes : (m ≡ length (operations_in j t)) × (n ≡ length (end_work o j).store.axes)
  unfolding operation_results
  operations_and_axes =
      let told = sym (operations_are call) ∙ accepted_operations o j s (answer_is call) in
      let left = ap length (operations_left call) ∙ length-map (end_work o j).items (item_record (program_of j).operations) in
      (told ∙ sym left, sym (axes_are call) ∙ accepted_axes o j s (answer_is call))

  -- "the rewritten program is proved to have its source's effect for every choice of outcomes and every product of frame rows": what lies
  -- in the slices, read by its records' fields alone, against the counted records handed in; "equal after factors 2 for the difference in
  -- operation count". ns are the places of the rows that are multiplied, in order.
  -- Rules out: conjugating the wrong way round; merging across a measurement
  pub effect_kept : (outcomes : ℕ → Bool) (ns : List ℕ)
      → pow2 (Effects (program_of j)) (length (program_of j).operations - length (operations_in j t))
      (result_effect (program_of j) (words_in j t) (operations_in j t) (rows_in j t) outcomes ns)
      ≡ source_effect (program_of j) outcomes ns
  effect_kept outcomes ns =
      ap₂ (λ (n : ℕ) x. pow2 (Effects (program_of j)) (length (program_of j).operations - n) x) (ap length (operations_left call))
      (effect_left call outcomes ns)
      ∙ run_keeps_effect (program_of j) (call_fine o j s (answer_is call)) (call_hermitian o j s (answer_is call)) (rules_of o) o.rounds
      outcomes ns

-- ==== Demand 3. Never worse

module _ {o : Options} {j : Job} {s : Lent} {c : Counters} {m n : ℕ} {t : Lent} (call : Called o j s Accepted c m n t) where
  -- the counters tell both T-counts.
  -- Rules out: T before taken after rotations dropped out; T after that leaves conditional rotations out
  pub t_counts_told : (c.t_before ≡ t_count_handed j) × (c.t_after ≡ t_count_left j t)
  unfolding counters_of
  t_counts_told = (
    ap (λ (x : Counters). x.t_before) (counters_of_run call),
    ap (λ (x : Counters). x.t_after) (counters_of_run call) ∙ ap result_t_count (sym (operations_left call)),
  )

  -- "neither exceeds the source's".
  -- Rules out: an exchange that is kept where the T-count rises; an even rotation written as two odd ones
  pub never_above_source : t_count_left j t ≤ t_count_handed j
  never_above_source =
      let told = t_counts_told in
      let h : c.t_after ≤ c.t_before = rw (← counters_are call) (no_more_than_source o j s (answer_is call)) in
      omega arith

module _ {o o' : Options} {j j' : Job} {s s' : Lent} {c c' : Counters} {m n m' n' : ℕ} {t t' : Lent} where
  -- "Of two accepted runs alike but for rounds and word limit, the one with more rounds has no higher T-count". 02, M-107: "Users of either
  -- order still never see the T-count rise as rounds are added, each order compared with itself": the order is among what is alike.
  -- Rules out: a last round whose worse result is kept; another strategy where there are many rounds
  pub more_rounds_never_worse : Called o j s Accepted c m n t → Called o' j' s' Accepted c' m' n' t' → AlikeButRoundsAndLimit o o' j j'
      → o.rounds ≤ o'.rounds
      → t_count_left j' t' ≤ t_count_left j t
  more_rounds_never_worse x y alike h =
      let e = t_counts_told x in
      let e' = t_counts_told y in
      let k : c'.t_after ≤ c.t_after = rw (← counters_are x, ← counters_are y)
      (no_more_with_more_rounds o o' j j' s s' alike.job (rules_alike_by alike.options alike.options.second_first) h (answer_is x) (answer_is y)) in
      omega arith

  -- by one set of rules and as many rounds
  equal_results : Called o j s Accepted c m n t → Called o' j' s' Accepted c' m' n' t' → Alike j j' → SameButLimit o o'
      → SameLeft t t' × (c' ≡ c)
  equal_results x y job same =
      let one = acceptance x in
      let other : AcceptanceLeaves (program_of j) (end_work o j) s' t'
      = rw (← same.rules, ← same.rounds, ← alike_program j j' job) (acceptance y) in (
        record {
          operations = agree_then _ _ _ one.operations other.operations;
          rows = agree_then _ _ _ one.rows other.rows;
          words = agree_then _ _ _ one.words other.words;
          numbers = agree_zeros _ _ one.numbers other.numbers;
        },
        rw (← counters_are x, ← counters_are y)
            (results_counters (equal_rounds o o' j j' s s' job same (answer_is x) (answer_is y))),
      )

  -- "equal rounds give equal results and counters".
  -- Rules out: an answer that depends on what the work stores held; ids that depend on the limit
  pub equal_rounds_equal_results : Called o j s Accepted c m n t → Called o' j' s' Accepted c' m' n' t' → AlikeButLimit o o' j j'
      → SameLeft t t' × (c' ≡ c)
  equal_rounds_equal_results x y alike = equal_results x y alike.job (but_limit_by alike.options alike.options.others.second_first)

  -- and as many operations and axes.
  -- Rules out: axes that a refused trial stored; operations counted up to the longest result slice
  pub equal_rounds_equal_numbers : Called o j s Accepted c m n t → Called o' j' s' Accepted c' m' n' t' → AlikeButLimit o o' j j'
      → (m' ≡ m) × (n' ≡ n)
  equal_rounds_equal_numbers x y alike =
      let end : end_work o' j' ≡ end_work o j
      = rw (rules_alike_by alike.options.others alike.options.others.second_first, alike.options.rounds, alike_program j j' alike.job) refl in (
        sym (operations_are y) ∙ accepted_operations o' j' s' (answer_is y) ∙ ap (λ (w : Work). length w.items) end
            ∙ sym (sym (operations_are x) ∙ accepted_operations o j s (answer_is x)),
        sym (axes_are y) ∙ accepted_axes o' j' s' (answer_is y) ∙ ap (λ (w : Work). length w.store.axes) end
            ∙ sym (sym (axes_are x) ∙ accepted_axes o j s (answer_is x)),
      )

module _ {o o' : Options} {j j' : Job} {s s' : Lent} {a a' : Answer} {c c' : Counters} {m n m' n' : ℕ} {t t' : Lent} where
  -- "an accepted or non-Hermitian run gets the same answer at every larger limit": the limit lies in the domain, and 3 does not refuse the
  -- stores ("long enough if 3 does not refuse them").
  -- Rules out: 10 at a limit above one that was enough; slots laid out so that a larger limit tests larger sums
  pub larger_limit_same_answer : Called o j s a c m n t → Called o' j' s' a' c' m' n' t' → AlikeButLimit o o' j j'
      → (a ≡ Accepted) ⊎ (a ≡ NonHermitianAxis) → limit_of o ≤ limit_of o' → limit_of o' ≤ 1048576 → (a' ≡ SliceShort → ⊥)
      → (a' ≡ a) × (c' ≡ c)
  larger_limit_same_answer x y alike e h k n =
      let passed = passed_checking x e in
      let not_2 : (rewriting o' j' s').answer ≡ OptionOutside → ⊥ = λ f. let m = ap number_of (sym (answer_is y) ∙ f) in
      not_two s s' alike passed k (sym (only_checking y (ap of_checking m)) ∙ sym (answer_is y) ∙ f) in
      let same = same_at_larger_limit o o' j j' s s' alike.job (but_limit_by alike.options alike.options.others.second_first) h
      (⊎_elim (λ f. inl (answer_is x ∙ f)) (λ f. inr (answer_is x ∙ f)) e) not_2 (λ f. n (sym (answer_is y) ∙ f)) in
      (rw (← answer_is x, ← answer_is y) (results_answer same), rw (← counters_are x, ← counters_are y) (results_counters same))

-- ==== Request M-103. "Report the words exactly"

module _ {o : Options} {j : Job} {s : Lent} {a : Answer} {c : Counters} {m n : ℕ} {t : Lent} (call : Called o j s a c m n t) where
  -- "A rewriting should return the largest word sum that was tested": that of 01's run, which knows no limit.
  -- Rules out: the sum tested last; the words that the axes take in the end
  pub words_told : a ≡ Accepted → c.packed_words ≡ (run_of o j).peak
  unfolding counters_of
  words_told e =
      let yes' = answer_is call ∙ e in
      ap (λ (x : Counters). x.packed_words) (sym (counters_are call) ∙ accepted_counters o j s yes')
      ∙ sym (hermitian_peak (rules_of o) o.rounds (program_of j) (accepted_hermitian o j s yes'))

  -- "0 .. on refusal", as every counter is.
  -- Rules out: the sum that 10 refused; what an earlier call left there
  pub words_refused : (a ≡ Accepted → ⊥) → c ≡ no_counters
  unfolding refused stopped
  words_refused no' = go (called_of call)
    where
      go : Replied o j s (record { answer = a; counters = c; operations = m; axes = n; lent = t }) → c ≡ no_counters
      go (by_checking e) = ap (λ (x : Reply). x.counters) e
      go (by_limit e) = ap (λ (x : Reply). x.counters) e
      go (by_root e) = ap (λ (x : Reply). x.counters) e
      go (done e) = absurd (no' e)

  -- "For a program with no non-Hermitian root, a run that passes the checks is then accepted exactly if the limit is no smaller than that
  -- sum as the same run without a limit would test it."
  -- Rules out: 10 where the limit is that sum; a limit that counts slots which are free again
  pub accepted_by_the_words : Hermitian (program_of j) → checking o j s ≡ Accepted → (a ≡ Accepted) ↔ ((run_of o j).peak ≤ limit_of o)
  accepted_by_the_words even passed =
      let exactly = accepted_where call passed in
      (λ e. (exactly.0 e).0, λ h. exactly.1 (h, even))

-- a second call, alike but for the limit, with stores that are long enough for it
module _ {o o' : Options} {j j' : Job} {s s' : Lent} {a' : Answer} {c c' : Counters} {m n m' n' : ℕ} {t t' : Lent}
    (x : Called o j s Accepted c m n t) (y : Called o' j' s' a' c' m' n' t') (alike : AlikeButLimit o o' j j') (long : a' ≡ SliceShort → ⊥) where
  -- the first passed the checks
  passed : checking o j s ≡ Accepted
  passed = passed_checking x (inl refl)

  -- no number that is returned exceeds the limit
  within_domain : c.packed_words ≤ 1048576
  within_domain =
      let h = ((accepted_where x passed).0 refl).0 in
      omega (arith, h, words_told x refl, limit_fits o (checking_options o j s passed))

  -- by one set of rules and as many rounds
  module _ (same : SameButLimit o o') where
    -- the number that the first call returned is the sum that the second one's run tests
    words_again : (run_of o' j').peak ≡ c.packed_words
    words_again =
        ap (λ (r : Run). r.peak) (run_same o o' j j' s s' alike.job same) ∙ sym (words_told x refl)

    -- and the second passes the checks
    passed_again : limit_of o' ≤ 1048576 → checking o' j' s' ≡ Accepted
    passed_again k =
        checks_again o o' j j' s s' alike.job same passed (not_two s s' alike passed k)
        (λ f. long (checks_itself y (ap accepts f) ∙ f))

    by_the_number : limit_of o' ≤ 1048576 → (a' ≡ Accepted) ↔ (c.packed_words ≤ limit_of o')
    by_the_number k =
        let even : Hermitian (program_of j')
        = rw (alike_program j j' alike.job) ((accepted_where x passed).0 refl).1 in
        let exactly = accepted_by_the_words y even (passed_again k) in
        (λ e. rw (← words_again) (exactly.0 e), λ h. exactly.1 (rw words_again h))

  -- it is accepted exactly if its limit is no smaller than the number that the first call returned.
  -- Rules out: the limit itself returned; a number that counts what the stores held
  pub accepted_by_the_number : limit_of o' ≤ 1048576 → (a' ≡ Accepted) ↔ (c.packed_words ≤ limit_of o')
  accepted_by_the_number k = by_the_number (but_limit_by alike.options alike.options.others.second_first) k

  -- the number as the limit: accepted, with the same results and the same counters.
  -- Rules out: a number that leaves out the images of F; a test that refuses a sum equal to the limit
  pub number_is_enough : limit_of o' ≡ c.packed_words → (a' ≡ Accepted) × (SameLeft t t' × (c' ≡ c))
  number_is_enough e =
      let same = but_limit_by alike.options alike.options.others.second_first in
      let yes' = (by_the_number same (omega (arith, within_domain))).1 (omega (arith, e)) in
      (yes', equal_results x (subst (λ (b : Answer). Called o' j' s' b c' m' n' t') yes' y) alike.job same)

  -- one less: 10.
  -- Rules out: the limit of the first call handed back as the number; a sum that counts slots which are free again
  pub one_less_is_refused : limit_of o' + 1 ≡ c.packed_words → a' ≡ ExpansionLimit
  one_less_is_refused e =
      let same = but_limit_by alike.options alike.options.others.second_first in
      (limit_where y (passed_again same (omega (arith, within_domain)))).1 (omega (arith, e, words_again same))

-- ==== Request M-107. "Second exchange first". Every promise above is of any options, so of either order

module _ {o : Options} {j : Job} {s : Lent} {a : Answer} {c : Counters} {m n : ℕ} {t : Lent} where
  -- "A new setting chooses this order of ties": where no exchange is tried, in Litinski's strategy and at window 0, it has no say, and a call
  -- in either order is one in the other.
  -- Rules out: the setting taken for that of lazy absorption; layers that are swept the other way round
  pub order_has_no_say : (b : Bool) → (o.strategy ≡ Litinski) ⊎ (o.window ≡ 0) → Called (in_order b o) j s a c m n t → Called o j s a c m n t
  order_has_no_say b none call = record { replied = call.replied ∙ reply_in_order b o j s none }

-- ==== Request M-102. "An index beside the axes"

-- "The number store of refusal 3 grows by 1,024 plus limit div (2 × l)": 3 comes exactly where counts and options are within the domain and a
-- slice is below what is asked, of the number store `numbersAsked` (model, Checking).
-- Rules out: a number store of 24 rows alone let through; one of just the length that is asked refused
pub refused_short : {o : Options} {j : Job} {s : Lent} {a : Answer} {c : Counters} {m n : ℕ} {t : Lent} → Called o j s a c m n t
    → (number_of a ≡ 3) ↔ ShortRefused o j s
refused_short {o} {j} {s} call = (
  λ e. let h = three_parts o j s (ap number_of (sym (only_checking call (ap of_checking e))) ∙ e) in
      record { counts = h.0; options = h.1; short = h.2 },
  λ h. let e = short_from o j s h.counts h.options h.short in ap number_of (checks_itself call (ap accepts e) ∙ e),
)

-- "Ids and results stay equal to the scan's": a scan of the words that an accepted call leaves finds the word of each of its n axes at its id.
-- Rules out: a word that is stored again since the walk for it ended too early; a word that packing and a pass store under two ids
pub ids_as_the_scans : {o : Options} {j : Job} {s : Lent} {c : Counters} {m n : ℕ} {t : Lent} → Called o j s Accepted c m n t
    → (i : ℕ) → i < n → id_of (words_in j t) (word_of (words_in j t) i) ≡ i
ids_as_the_scans call i h = ids_scanned call i (omega (arith, (operations_and_axes call).1))

-- ==== Request M-112. "Change to lazy absorption during a job". Demands 2 and 3 above are of any options, so of any named place, and in demand 3
-- the lazy setting is among what is alike, with its place

module _ {o : Options} {j : Job} {s : Lent} {a : Answer} {c : Counters} {m n : ℕ} {t : Lent} (call : Called o j s a c m n t) where
  -- "16 the place is outside the program or holds a plain rotation, tested last among the checks": exactly there; what it leaves is above.
  -- Rules out: 16 for a program whose frame rows 6 refuses; a place equal to the count taken for none
  pub refused_place : (number_of a ≡ 16) ↔ PlaceRefused o j s
  refused_place = (
    λ e. sixteen_where o j s (ap number_of (sym (only_checking call (ap of_checking e))) ∙ e),
    λ h. let e = refused_where o j s h in ap number_of (checks_itself call (ap accepts e) ∙ e),
  )

  -- "Even rotations before it are absorbed at their turn; from the next operation on they wait, as the lazy setting has it."; "All streams of a
  -- run use the same named place": a stream from any point of the run. "If the named operation drops out in packing": it never does.
  -- Rules out: a change in the first stream alone; a later stream that begins lazily; a name that is lost when a rotation before it drops out
  pub each_stream_of_a_call : a ≡ Accepted → (place : ℕ) → o.lazy_cliffords ≡ From place → o.clifford_to_frame ≡ true → {v : Work}
      → Reached (width (program_of j).qubits) (rules_of o) (start_of (program_of j)) v → ChangesAt (rules_of o) place v.items
  each_stream_of_a_call e place named on h =
      stream_changes o j s place named on (passed_checking call (inl e)) (accepted_hermitian o j s (answer_is call ∙ e)) h

  -- "Absorption off: even angles stay": then a place that Checking passes changes nothing, and the call is one that names none.
  -- Rules out: rotations that begin to wait in spite of it; a place that is looked at before the setting of absorption
  pub named_without_absorption : checking o j s ≡ Accepted → o.clifford_to_frame ≡ false → Called (lazily Off o) j s a c m n t
  named_without_absorption passed e = record { replied = call.replied ∙ sym (reply_unnamed o j s e passed) }

-- ==== Request M-113. "Cut a job at a measurement"

-- "where the later part names no outcome of the earlier": where the whole and the later part are accepted it names none, by a measurement or a
-- condition, since 8 refuses neither.
-- Rules out: a table of outcomes that one call leaves to the next; 8 for conditions alone, with an outcome measured twice let through
pub cut_names_none : {o oₗ : Options} {j earlier later : Job} {s sₗ t tₗ : Lent} {c cₗ : Counters} {m n mₗ nₗ : ℕ}
    → Called o j s Accepted c m n t → Called oₗ later sₗ Accepted cₗ mₗ nₗ tₗ → CutAtMeasurement j earlier later
    → NamesNone (operation_records earlier) (operation_records later)
cut_names_none {j = j} {earlier = earlier} {later = later} x z cut =
    names_none j.counts.nodes later.counts.nodes (operation_records earlier) (operation_records later)
    (rw (← cut.joined) (operations_passed x)) (operations_passed z)

-- "With absorption off, merge strategy, one round .., cut directly after a measurement ..; both keep nodes and rows. If the whole and both parts
-- are accepted with all options alike but the word limit". This is stronger than the request: "no named change of setting", that the later part
-- names no outcome of the earlier, and that "the parts' swaps add up" are not asked. "This must hold for both tie orders": the order is among
-- the options that are alike, whichever it is. With absorption on, with three rounds, or cut between rotations it is false: CutExamples
module _ {o oₑ oₗ : Options} {j earlier later : Job} {s sₑ sₗ t tₑ tₗ : Lent} {c cₑ cₗ : Counters} {m n mₑ nₑ mₗ nₗ : ℕ}
    (x : Called o j s Accepted c m n t) (y : Called oₑ earlier sₑ Accepted cₑ mₑ nₑ tₑ) (z : Called oₗ later sₗ Accepted cₗ mₗ nₗ tₗ)
    (same : SameOptionsButLimit o oₑ) (alike : SameOptionsButLimit o oₗ) (one : OneRound o) (cut : CutAtMeasurement j earlier later) where
  -- "the two results' operations written one behind the other must be the whole's in every field, words compared in place of ids".
  -- Rules out: a rotation merged into one before the measurement; an exchange of groups from both sides of it
  pub cut_results : worded_in j t ≡ worded_in earlier tₑ ++ worded_in later tₗ
  cut_results =
      (parts_add_up x y z (but_limit_by same same.others.second_first) (but_limit_by alike alike.others.second_first)
      (merges_only_by o one.absorption one.strategy) one.rounds cut cut.measures).operations

  -- "the parts' swaps add up to the whole's": always.
  -- Rules out: the swaps of the last segment only; 1 for however many swaps
  pub cut_swaps : c.swaps ≡ cₑ.swaps + cₗ.swaps
  cut_swaps =
      (parts_add_up x y z (but_limit_by same same.others.second_first) (but_limit_by alike alike.others.second_first)
      (merges_only_by o one.absorption one.strategy) one.rounds cut cut.measures).swaps

  -- and so do their merges.
  -- Rules out: a merge counted for an equal axis before the measurement; the merges of the first segment only
  pub cut_merges : c.merges ≡ cₑ.merges + cₗ.merges
  cut_merges =
      (parts_add_up x y z (but_limit_by same same.others.second_first) (but_limit_by alike alike.others.second_first)
      (merges_only_by o one.absorption one.strategy) one.rounds cut cut.measures).merges
