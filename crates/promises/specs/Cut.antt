-- 02, M-113: a job cut at a measurement, its parts, and what three calls leave. Assumes nothing.
use Rattle.std.specs.Prelude.{◌≡◌, false, ℕ, ◌+◌, length}
use Rattle.std.proofs.Math.Path.{refl, sym, ap}
use Rattle.std.proofs.Common.{ap₂, ◌∙◌, subst, inl}
use mathlib.Core.List.{List, [], ◌∷◌, ◌++◌, map, map-append}
use Rattle.model.specs.declared.Strategy.TheVariants.{Merge}
use Rattle.model.specs.declared.Options.{Options}
use Rattle.model.specs.Answers.{Accepted}
use Rattle.model.specs.declared.Counters.{Counters}
use Rattle.model.specs.Lists.{when◌then◌else◌}
use Rattle.model.specs.Program.{field_of, Job, node_records, operation_records, row_records, kind_of, measure, Operation, operation_of}
use Rattle.model.specs.Program.{Program, program_of}
use Rattle.model.specs.Rules.{Rules, absorption_of, rules_of}
use Rattle.model.specs.Run.{end_of}
use Rattle.model.specs.Results.{operation_results, counters_of}
use Rattle.model.specs.Checking.{Lent, check_operations, check_program}
use Rattle.model.specs.Rewriting.{Called}
use Rattle.theory.specs.Every.{map_every}
use Rattle.theory.specs.Called.{answer_is, counters_are}
use Rattle.theory.specs.Limit.{SameButLimit}
use Rattle.theory.specs.Checked.{both_accepted, checking_program}
use Rattle.theory.specs.TCountCalls.{accepted_counters}
use Rattle.result_effect.specs.Calls.{call_fine, call_hermitian}
use Rattle.cutting.specs.Worded.{WordedOperation, with_word, worded, worded_all}
use Rattle.cutting.specs.CutRun.{with_operations, MergesOnly, Runs, worded_end, AddsUp}
use Rattle.cutting.proofs.CutRun.{run_cut}
use Rattle.promises.specs.Calls.{passed_checking}
use Rattle.promises.specs.Strategies.{end_work}
use Rattle.promises.specs.Left.{operations_in, words_in, IdIn, operations_left, words_left, records_in}
use Rattle.promises.specs.Alike.{SameOptionsButLimit, but_limit_by}

-- ---- what the sentences speak of

-- "With absorption off, merge strategy, one round". "and no named change of setting" is not asked: with absorption off it changes nothing
pub record OneRound (o : Options) : Type 0 where
  pub absorption : o.clifford_to_frame ≡ false
  pub strategy : o.strategy ≡ Merge
  pub rounds : o.rounds ≡ 1

-- "both keep nodes and rows"
pub record KeepsNodesAndRows (j part : Job) : Type 0 where
  pub qubits : part.counts.qubits ≡ j.counts.qubits
  pub nodes : node_records part ≡ node_records j
  pub rows : row_records part ≡ row_records j

-- "cut directly after a measurement": the counted operations of the earlier part, whose last one measures, then those of the later part
pub record CutAtMeasurement (j earlier later : Job) : Type 0 where
  pub earlier_keeps : KeepsNodesAndRows j earlier
  pub later_keeps : KeepsNodesAndRows j later
  pub before : List (List ℕ)
  pub measurement : List ℕ
  pub measures : field_of measurement 0 ≡ 2
  pub ends : operation_records earlier ≡ before ++ (measurement ∷ [])
  pub joined : operation_records j ≡ operation_records earlier ++ operation_records later

-- "in every field, words compared in place of ids": the operations that lie in the lent slice, each id's word read from the word store
abbrev pub worded_in : Job → Lent → List WordedOperation
worded_in j t = worded_all (words_in j t) (operations_in j t)

-- ---- one call

module _ {o : Options} {j : Job} {s : Lent} {c : Counters} {m n : ℕ} {t : Lent} (call : Called o j s Accepted c m n t) where
  abbrev axes : List (List ℕ)
  axes = (end_work o j).store.axes

  -- by these rules, with one round, it leaves and counts what the run's end says
  module _ {r : Rules} (rules : rules_of o ≡ r) (rounds : o.rounds ≡ 1) where
    worded_left : worded_in j t ≡ worded_end r (program_of j)
    worded_left =
        ap (worded_all (words_in j t)) (operations_left call)
        ∙ map_every (IdIn (length axes)) (worded (words_in j t)) (worded axes)
        (λ fields h. ap (λ (w : List ℕ). with_word w fields) (words_left call (field_of fields 1) h))
        (operation_results (program_of j) (end_work o j)) (records_in call)
        ∙ ap₂ (λ (r : Rules) (n : ℕ). worded_all (end_of r n (program_of j)).store.axes (operation_results (program_of j) (end_of r n (program_of j))))
        rules rounds

    counters_left : (c.swaps ≡ (end_of r 1 (program_of j)).swaps) × (c.merges ≡ (end_of r 1 (program_of j)).merges)
    unfolding counters_of
    counters_left =
        let e = sym (counters_are call) ∙ accepted_counters o j s (answer_is call) in
        rw (← rules, ← rounds) (ap (λ (x : Counters). x.swaps) e, ap (λ (x : Counters). x.merges) e)

  runs_as : {p : Program} → program_of j ≡ p → Runs p
  runs_as e = subst Runs e (record { fine = call_fine o j s (answer_is call); hermitian = call_hermitian o j s (answer_is call) })

-- ---- the programs

module _ {j earlier later : Job} (cut : CutAtMeasurement j earlier later) where
  abbrev p : Program
  p = program_of j

  abbrev first : List Operation
  first = map operation_of cut.before

  abbrev last : Operation
  last = operation_of cut.measurement

  abbrev rest : List Operation
  rest = map operation_of (operation_records later)

  measured_by : field_of cut.measurement 0 ≡ 2 → last.kind ≡ measure
  unfolding operation_of
  measured_by h = ap kind_of h

  measured : last.kind ≡ measure
  measured = measured_by cut.measures

  earlier_operations : map operation_of (operation_records earlier) ≡ first ++ (last ∷ [])
  earlier_operations = ap (map operation_of) cut.ends ∙ map-append operation_of cut.before (cut.measurement ∷ [])

  earlier_program : program_of earlier ≡ with_operations p (first ++ (last ∷ []))
  unfolding program_of
  earlier_program =
      rw (cut.earlier_keeps.rows, cut.earlier_keeps.nodes, earlier_operations, cut.earlier_keeps.qubits) refl

  later_program : program_of later ≡ with_operations p rest
  unfolding program_of
  later_program = rw (cut.later_keeps.rows, cut.later_keeps.nodes, cut.later_keeps.qubits) refl

  whole_program : program_of j ≡ with_operations p ((first ++ (last ∷ [])) ++ rest)
  unfolding program_of
  whole_program =
      ap (λ (ops : List Operation). with_operations (program_of j) ops)
      (ap (map operation_of) cut.joined ∙ map-append operation_of (operation_records earlier) (operation_records later)
      ∙ ap (λ (ops : List Operation). ops ++ rest) earlier_operations)

-- ---- the rules

pub merges_only_by : (o : Options) → o.clifford_to_frame ≡ false → o.strategy ≡ Merge → MergesOnly (rules_of o)
unfolding rules_of absorption_of when◌then◌else◌
merges_only_by o h strategy = record { absorption = rw h refl; strategy = strategy }

merges_only : (o : Options) → OneRound o → MergesOnly (rules_of o)
merges_only o h = merges_only_by o h.absorption h.strategy

-- ---- the three calls

-- what the calls of the whole and of both parts leave adds up, and so do their counters
pub record CallsAddUp (j earlier later : Job) (t tₑ tₗ : Lent) (c cₑ cₗ : Counters) : Type 0 where
  pub operations : worded_in j t ≡ worded_in earlier tₑ ++ worded_in later tₗ
  pub swaps : c.swaps ≡ cₑ.swaps + cₗ.swaps
  pub merges : c.merges ≡ cₑ.merges + cₗ.merges

module _ {o oₑ oₗ : Options} {j earlier later : Job} {s sₑ sₗ t tₑ tₗ : Lent} {c cₑ cₗ : Counters} {m n mₑ nₑ mₗ nₗ : ℕ}
    (x : Called o j s Accepted c m n t) (y : Called oₑ earlier sₑ Accepted cₑ mₑ nₑ tₑ) (z : Called oₗ later sₗ Accepted cₗ mₗ nₗ tₗ)
    (same : SameButLimit o oₑ) (alike : SameButLimit o oₗ) (merges : MergesOnly (rules_of o)) (rounds : o.rounds ≡ 1)
    (cut : CutAtMeasurement j earlier later) (measures : field_of cut.measurement 0 ≡ 2) where
  abbrev r : Rules
  r = rules_of o

  ends : AddsUp r (program_of j) (program_of earlier) (program_of later)
  ends =
      rw (earlier_program cut, later_program cut, whole_program cut)
      (run_cut r merges (program_of j) (first cut) (last cut) (measured_by cut measures) (rest cut)
      (runs_as x (whole_program cut)) (runs_as y (earlier_program cut)) (runs_as z (later_program cut)))

  -- what the promises' conditions give, which edits refute, stands apart: no promise rests on another
  pub parts_add_up : CallsAddUp j earlier later t tₑ tₗ c cₑ cₗ
  parts_add_up =
      let once = same.rounds ∙ rounds in
      let once' = alike.rounds ∙ rounds in
      let whole = counters_left x refl rounds in
      let part = counters_left y same.rules once in
      let rest' = counters_left z alike.rules once' in
      record {
        operations = worded_left x refl rounds ∙ ends.operations
            ∙ ap₂ (λ (u v : List WordedOperation). u ++ v) (sym (worded_left y same.rules once)) (sym (worded_left z alike.rules once'));
        swaps = whole.0 ∙ ends.swaps ∙ ap₂ ◌+◌ (sym part.0) (sym rest'.0);
        merges = whole.1 ∙ ends.merges ∙ ap₂ ◌+◌ (sym part.1) (sym rest'.1);
      }

module _ {o oₑ oₗ : Options} {j earlier later : Job} {s sₑ sₗ t tₑ tₗ : Lent} {c cₑ cₗ : Counters} {m n mₑ nₑ mₗ nₗ : ℕ}
    (x : Called o j s Accepted c m n t) (y : Called oₑ earlier sₑ Accepted cₑ mₑ nₑ tₑ) (z : Called oₗ later sₗ Accepted cₗ mₗ nₗ tₗ)
    (same : SameOptionsButLimit o oₑ) (alike : SameOptionsButLimit o oₗ) (one : OneRound o) (cut : CutAtMeasurement j earlier later) where
  pub calls_add_up : CallsAddUp j earlier later t tₑ tₗ c cₑ cₗ
  calls_add_up =
      parts_add_up x y z (but_limit_by same same.others.second_first) (but_limit_by alike alike.others.second_first)
      (merges_only_by o one.absorption one.strategy) one.rounds cut cut.measures

-- ---- outcomes

-- 8 refuses none of an accepted call's operations
pub operations_passed : {o : Options} {j : Job} {s : Lent} {c : Counters} {m n : ℕ} {t : Lent} → Called o j s Accepted c m n t
    → check_operations j.counts.nodes [] (operation_records j) ≡ Accepted
unfolding check_program
operations_passed {o} {j} {s} call =
    (both_accepted _ _ (both_accepted _ _ (checking_program o j s (passed_checking call (inl refl)))).1).0
