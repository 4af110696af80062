-- The three demands about `werdutxa_rewrite` of include/werdutxa.h, which customers link, in the numbers that a caller sees. What it ensures for
-- all arguments is `ExportedCall o j s r k t`: with options o, job j and slices s lent a call returned r, counted the fourteen numbers k and left
-- the slices t. By `rewriting-called` (Calls) it is a call that `promises` speaks of, so all that is promised there holds of it, and the wrong
-- programs named there are ruled out; here stand the mission's sentences, and those of requests that promise something. Assumes nothing.
use Rattle.std.specs.Prelude.{◌≡◌, refl, ◌⊎◌, ◌↔◌, Bool, true, false, List, ◌++◌, ℕ, ◌+◌, ◌-◌, ◌≤◌, ◌<◌, length, get_or}
use Rattle.std.proofs.Common.{sym, ap₂, ◌∙◌, inl, inr, ⊎_elim, true≢false, arith}
use Rattle.std.proofs.Math.Path.{ap}
use Rattle.groups.specs.Abelian.{pow2}
use Rattle.pauli.specs.Word.{width}
use Rattle.model.specs.declared.Lazy.TheVariants.{Off, From}
use Rattle.model.specs.declared.Options.{Options}
use Rattle.model.specs.Answers.{Answer, Accepted, SliceShort, NonHermitianAxis}
use Rattle.model.specs.declared.Strategy.TheVariants.{Litinski}
use Rattle.model.specs.Interface.{number_of, of_checking, no_counters}
use Rattle.model.specs.Program.{Job, operation_records, program_of}
use Rattle.model.specs.Rules.{rules_of}
use Rattle.model.specs.Words.{id_of, word_of}
use Rattle.model.specs.Rounds.{Work}
use Rattle.model.specs.Run.{start_of}
use Rattle.model.specs.Checking.{Lent, checking}
use Rattle.model.specs.Rewriting.{Reply, rewriting}
use Rattle.theory.specs.Replies.{run_of, limit_of}
use Rattle.theory.specs.WithoutExchange.{in_order, reply_in_order}
use Rattle.theory.specs.WithoutAbsorption.{lazily, reply_unnamed}
use Rattle.run_wellformed.specs.Points.{Reached}
use Rattle.run_effect.specs.RunEffect.{Effects, source_effect, result_effect}
use Rattle.cutting.specs.Outcomes.{NamesNone}
use Rattle.promises.specs.Calls.{ShortRefused, PlaceRefused}
use Rattle.promises.specs.Named.{ChangesAt}
use Rattle.promises.specs.Left.{operations_in, rows_in, words_in}
use Rattle.promises.specs.Strategies.{end_work}
use Rattle.promises.specs.Alike.{SameOptionsButLimit, AlikeButRoundsAndLimit, AlikeButLimit}
use Rattle.promises.specs.Cut.{OneRound, CutAtMeasurement, worded_in, CallsAddUp, calls_add_up}
use Rattle.promises.specs.Promises.{Cleared, AcceptanceLeaves, SameLeft, t_count_handed, t_count_left}
use Rattle.promises.specs.Promises as rewriting_promises
use Rattle.werdutxa.specs.Calls.{counted_by, ExportedCall}
use Rattle.library_promises.specs.Calls.{rewriting_called, rewriting_answered, rewriting_called_as}

-- fourteen zeros
abbrev pub counted_nothing : List ℕ
counted_nothing = counted_by no_counters 0 0

-- ==== Demand 1. Memory

module _ {o : Options} {j : Job} {s : Lent} {r : ℕ} {k : List ℕ} {t : Lent} (call : ExportedCall o j s r k t) where
  refused_counts : (r ≡ 0 → ⊥) → (rewriting o j s).counters ≡ no_counters → k ≡ counted_nothing
  refused_counts h e =
      let none = rewriting_promises.nothing_counted (rewriting_called call) (λ f. h (call.answer ∙ ap number_of f)) in
      call.counts ∙ rw (e, none.0, none.1) refl

  -- a call returns 0 to 10, or 16
  pub returns_0_to_10_or_16 : (r ≤ 10) ⊎ (r ≡ 16)
  returns_0_to_10_or_16 =
      let n = number_of (rewriting o j s).answer in
      ⊎_elim (λ (h : n ≤ 10). inl (omega (arith, call.answer, h))) (λ (h : n ≡ 16). inr (call.answer ∙ h))
      (rewriting_promises.answers_0_to_10_or_16 (rewriting_called call))

  -- "refusals 1 to 8 leave all slices unchanged"; 02, M-112: 16 leaves memory "as by 8"
  pub refusals_1_to_8_and_16 : of_checking r ≡ true → (t ≡ s) × (k ≡ counted_nothing)
  refusals_1_to_8_and_16 h =
      let p = rewriting_promises.refusals_1_to_8_and_16 (rewriting_called call) (ap of_checking (sym call.answer) ∙ h) in
      (p.0, refused_counts (λ e. true≢false (sym h ∙ ap of_checking e)) p.1)

  -- "9 and 10 leave program and results unchanged and both work stores zero"
  pub refusals_9_and_10 : 9 ≤ r → r ≤ 10 → Cleared s t × (k ≡ counted_nothing)
  refusals_9_and_10 h l =
      let p = rewriting_promises.refusals_9_and_10 (rewriting_called call) (omega (arith, call.answer)) (omega (arith, call.answer)) in
      (p.0, refused_counts (λ e. omega arith) p.1)

  -- "acceptance leaves results, axis words and zeros"
  pub acceptance : r ≡ 0 → AcceptanceLeaves (program_of j) (end_work o j) s t
  acceptance e = rewriting_promises.acceptance (rewriting_called_as call Accepted e)

  -- ==== Demand 2. Meaning

  -- "the rewritten program is proved to have its source's effect for every choice of outcomes and every product of frame rows"
  pub effect_kept : r ≡ 0 → (outcomes : ℕ → Bool) (ns : List ℕ)
      → pow2 (Effects (program_of j)) (length (program_of j).operations - length (operations_in j t))
      (result_effect (program_of j) (words_in j t) (operations_in j t) (rows_in j t) outcomes ns)
      ≡ source_effect (program_of j) outcomes ns
  effect_kept e = rewriting_promises.effect_kept (rewriting_called_as call Accepted e)

  -- ==== Demand 3. Never worse

  -- "neither exceeds the source's"
  pub never_above_source : r ≡ 0 → t_count_left j t ≤ t_count_handed j
  never_above_source e = rewriting_promises.never_above_source (rewriting_called_as call Accepted e)

module _ {o o' : Options} {j j' : Job} {s s' : Lent} {r r' : ℕ} {k k' : List ℕ} {t t' : Lent} (x : ExportedCall o j s r k t)
    (y : ExportedCall o' j' s' r' k' t') where
  -- "Of two accepted runs alike but for rounds and word limit, the one with more rounds has no higher T-count". 02, M-107: "Users of either
  -- order still never see the T-count rise as rounds are added, each order compared with itself": the order is among what is alike
  pub more_rounds_never_worse : r ≡ 0 → r' ≡ 0 → AlikeButRoundsAndLimit o o' j j' → o.rounds ≤ o'.rounds
      → t_count_left j' t' ≤ t_count_left j t
  more_rounds_never_worse e e' =
      rewriting_promises.more_rounds_never_worse (rewriting_called_as x Accepted e) (rewriting_called_as y Accepted e')

  -- "equal rounds give equal results and counters"
  pub equal_rounds_equal_results : r ≡ 0 → r' ≡ 0 → AlikeButLimit o o' j j' → SameLeft t t' × (k' ≡ k)
  equal_rounds_equal_results e e' alike =
      let p = rewriting_called_as x Accepted e in
      let q = rewriting_called_as y Accepted e' in
      let same = rewriting_promises.equal_rounds_equal_results p q alike in
      let numbers = rewriting_promises.equal_rounds_equal_numbers p q alike in
      (same.0, y.counts ∙ rw (same.1, numbers.0, numbers.1) (sym x.counts))

  -- "an accepted or non-Hermitian run gets the same answer at every larger limit", which lies in the domain, with stores that 3 takes
  pub larger_limit_same_answer : AlikeButLimit o o' j j' → (r ≡ 0) ⊎ (r ≡ 9) → limit_of o ≤ limit_of o' → limit_of o' ≤ 1048576 → (r' ≡ 3 → ⊥)
      → r' ≡ r
  larger_limit_same_answer alike e h l n = ⊎_elim (λ f. again Accepted f (inl refl)) (λ f. again NonHermitianAxis f (inr refl)) e
    where
      again : (a : Answer) → r ≡ number_of a → (a ≡ Accepted) ⊎ (a ≡ NonHermitianAxis) → r' ≡ r
      again a f g =
          let p = rewriting_promises.larger_limit_same_answer (rewriting_called_as x a f) (rewriting_called y) alike g h l
          (λ i. n (y.answer ∙ ap number_of i)) in
          y.answer ∙ ap number_of p.0 ∙ sym f

-- ==== Request M-103. "Report the words exactly"

-- the fourteenth number that a call counts
abbrev pub words_counted : List ℕ → ℕ
words_counted k = get_or k 13 0

module _ {o : Options} {j : Job} {s : Lent} {r : ℕ} {k : List ℕ} {t : Lent} (call : ExportedCall o j s r k t) where
  words_are : words_counted k ≡ (rewriting o j s).counters.packed_words
  unfolding counted_by
  words_are = ap words_counted call.counts

  -- "A rewriting should return the largest word sum that was tested"
  pub words_told : r ≡ 0 → words_counted k ≡ (run_of o j).peak
  words_told e = words_are ∙ rewriting_promises.words_told (rewriting_called_as call Accepted e) refl

-- a second call, alike but for the limit, with stores that are long enough for it
module _ {o o' : Options} {j j' : Job} {s s' : Lent} {r r' : ℕ} {k k' : List ℕ} {t t' : Lent} (x : ExportedCall o j s r k t)
    (y : ExportedCall o' j' s' r' k' t') (done : r ≡ 0) (alike : AlikeButLimit o o' j j') (long : r' ≡ 3 → ⊥) where
  not_short : (rewriting o' j' s').answer ≡ SliceShort → ⊥
  not_short e = long (y.answer ∙ ap number_of e)

  -- it is accepted exactly if its limit is no smaller than the number that the first call counted
  pub accepted_by_the_number : limit_of o' ≤ 1048576 → (r' ≡ 0) ↔ (words_counted k ≤ limit_of o')
  accepted_by_the_number h =
      let exactly = rewriting_promises.accepted_by_the_number (rewriting_called_as x Accepted done) (rewriting_called y) alike not_short h in (
        λ e. rw (words_are x) (exactly.0 (rewriting_answered y Accepted e)),
        λ e. y.answer ∙ ap number_of (exactly.1 (rw (words_are x) at e)),
      )

  -- the number as the limit: accepted, with the same results and counts
  pub number_is_enough : limit_of o' ≡ words_counted k → (r' ≡ 0) × (SameLeft t t' × (k' ≡ k))
  number_is_enough e =
      let enough = rewriting_promises.number_is_enough (rewriting_called_as x Accepted done) (rewriting_called y) alike not_short
      (e ∙ words_are x) in
      let done' = y.answer ∙ ap number_of enough.0 in
      (done', equal_rounds_equal_results x y done done' alike)

  -- one less: 10
  pub one_less_is_refused : limit_of o' + 1 ≡ words_counted k → r' ≡ 10
  one_less_is_refused e =
      y.answer ∙ ap number_of (rewriting_promises.one_less_is_refused (rewriting_called_as x Accepted done) (rewriting_called y) alike not_short
      (e ∙ words_are x))

-- options by which the reply is the same
exported_as : {o o' : Options} {j : Job} {s : Lent} {r : ℕ} {k : List ℕ} {t : Lent} → rewriting o j s ≡ rewriting o' j s
    → ExportedCall o j s r k t → ExportedCall o' j s r k t
exported_as same call = record {
  answer = call.answer ∙ ap (λ (x : Reply). number_of x.answer) same;
  counts = call.counts ∙ ap (λ (x : Reply). counted_by x.counters x.operations x.axes) same;
  lent = call.lent ∙ ap (λ (x : Reply). x.lent) same;
}

-- ==== Request M-107. "Second exchange first". Every promise above is of any options, so of either order

module _ {o : Options} {j : Job} {s : Lent} {r : ℕ} {k : List ℕ} {t : Lent} where
  -- "A new setting chooses this order of ties": in Litinski's strategy and at window 0 it has no say
  pub order_has_no_say : (b : Bool) → (o.strategy ≡ Litinski) ⊎ (o.window ≡ 0) → ExportedCall (in_order b o) j s r k t → ExportedCall o j s r k t
  order_has_no_say b none = exported_as (reply_in_order b o j s none)

-- ==== Request M-102. "An index beside the axes"

-- of the numbers counted, how many axes there are
abbrev pub axes_counted : List ℕ → ℕ
axes_counted k = get_or k 6 0

module _ {o : Options} {j : Job} {s : Lent} {r : ℕ} {k : List ℕ} {t : Lent} (call : ExportedCall o j s r k t) where
  axes_are : axes_counted k ≡ (rewriting o j s).axes
  unfolding counted_by
  axes_are = ap axes_counted call.counts

  -- "The number store of refusal 3 grows by 1,024 plus limit div (2 × l)": 3 exactly where a slice is below what is asked
  pub refused_short : (r ≡ 3) ↔ ShortRefused o j s
  refused_short =
      let exactly = rewriting_promises.refused_short (rewriting_called call) in
      (λ e. exactly.0 (sym call.answer ∙ e), λ h. call.answer ∙ exactly.1 h)

  -- "Ids and results stay equal to the scan's": of the words that are left, the scan finds that of each axis at its id
  pub ids_as_the_scans : r ≡ 0 → (i : ℕ) → i < axes_counted k → id_of (words_in j t) (word_of (words_in j t) i) ≡ i
  ids_as_the_scans e i h = rewriting_promises.ids_as_the_scans (rewriting_called_as call Accepted e) i (omega (arith, axes_are))

-- ==== Request M-112. "Change to lazy absorption during a job". Every promise above is of any options, so of any named place

module _ {o : Options} {j : Job} {s : Lent} {r : ℕ} {k : List ℕ} {t : Lent} (call : ExportedCall o j s r k t) where
  -- "16 the place is outside the program or holds a plain rotation, tested last among the checks"
  pub refused_place : (r ≡ 16) ↔ PlaceRefused o j s
  refused_place =
      let exactly = rewriting_promises.refused_place (rewriting_called call) in
      (λ e. exactly.0 (sym call.answer ∙ e), λ h. call.answer ∙ exactly.1 h)

  -- "Even rotations before it are absorbed at their turn; from the next operation on they wait"; "All streams of a run use the same named place"
  pub each_stream_of_a_call : r ≡ 0 → (place : ℕ) → o.lazy_cliffords ≡ From place → o.clifford_to_frame ≡ true → {v : Work}
      → Reached (width (program_of j).qubits) (rules_of o) (start_of (program_of j)) v → ChangesAt (rules_of o) place v.items
  each_stream_of_a_call e = rewriting_promises.each_stream_of_a_call (rewriting_called_as call Accepted e) refl

  -- "Absorption off: even angles stay": then a place that Checking passes changes nothing
  pub named_without_absorption : checking o j s ≡ Accepted → o.clifford_to_frame ≡ false → ExportedCall (lazily Off o) j s r k t
  named_without_absorption passed e = exported_as (sym (reply_unnamed o j s e passed)) call

-- ==== Request M-113. "Cut a job at a measurement"

-- the third and the fourth number that a call counts
abbrev pub merges_counted : List ℕ → ℕ
merges_counted k = get_or k 2 0

abbrev pub swaps_counted : List ℕ → ℕ
swaps_counted k = get_or k 3 0

module _ {o : Options} {j : Job} {s : Lent} {r : ℕ} {k : List ℕ} {t : Lent} (call : ExportedCall o j s r k t) where
  merges_are : merges_counted k ≡ (rewriting o j s).counters.merges
  unfolding counted_by
  merges_are = ap merges_counted call.counts

  swaps_are : swaps_counted k ≡ (rewriting o j s).counters.swaps
  unfolding counted_by
  swaps_are = ap swaps_counted call.counts

-- "where the later part names no outcome of the earlier": an accepted later part of an accepted whole names none
pub cut_names_none : {o oₗ : Options} {j earlier later : Job} {s sₗ t tₗ : Lent} {r rₗ : ℕ} {k kₗ : List ℕ} → ExportedCall o j s r k t
    → ExportedCall oₗ later sₗ rₗ kₗ tₗ → r ≡ 0 → rₗ ≡ 0 → CutAtMeasurement j earlier later
    → NamesNone (operation_records earlier) (operation_records later)
cut_names_none x z done doneₗ = rewriting_promises.cut_names_none (rewriting_called_as x Accepted done) (rewriting_called_as z Accepted doneₗ)

-- "With absorption off, merge strategy, one round .., cut directly after a measurement ..; both keep nodes and rows. If the whole and both parts
-- are accepted with all options alike but the word limit": for both tie orders, and stronger than the request as `promises` says
module _ {o oₑ oₗ : Options} {j earlier later : Job} {s sₑ sₗ t tₑ tₗ : Lent} {r rₑ rₗ : ℕ} {k kₑ kₗ : List ℕ}
    (x : ExportedCall o j s r k t) (y : ExportedCall oₑ earlier sₑ rₑ kₑ tₑ) (z : ExportedCall oₗ later sₗ rₗ kₗ tₗ)
    (done : r ≡ 0) (doneₑ : rₑ ≡ 0) (doneₗ : rₗ ≡ 0)
    (same : SameOptionsButLimit o oₑ) (alike : SameOptionsButLimit o oₗ) (one : OneRound o) (cut : CutAtMeasurement j earlier later) where
  adds_up : CallsAddUp j earlier later t tₑ tₗ (rewriting o j s).counters (rewriting oₑ earlier sₑ).counters (rewriting oₗ later sₗ).counters
  adds_up =
      calls_add_up (rewriting_called_as x Accepted done) (rewriting_called_as y Accepted doneₑ) (rewriting_called_as z Accepted doneₗ)
      same alike one cut

  -- "the two results' operations written one behind the other must be the whole's in every field, words compared in place of ids"
  pub cut_results : worded_in j t ≡ worded_in earlier tₑ ++ worded_in later tₗ
  cut_results = adds_up.operations

  -- "the parts' swaps add up to the whole's": always, and so do their merges
  pub cut_swaps : swaps_counted k ≡ swaps_counted kₑ + swaps_counted kₗ
  cut_swaps = swaps_are x ∙ adds_up.swaps ∙ sym (ap₂ ◌+◌ (swaps_are y) (swaps_are z))

  pub cut_merges : merges_counted k ≡ merges_counted kₑ + merges_counted kₗ
  cut_merges = merges_are x ∙ adds_up.merges ∙ sym (ap₂ ◌+◌ (merges_are y) (merges_are z))
