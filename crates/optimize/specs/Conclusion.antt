-- The end of a call that Checking passes: results written, or the work stores cleaned. Assumes nothing.
use Rattle.std.specs.Prelude.{◌≡◌, Bool, ℕ, ◌*◌, ◌≤◌, Result, Ok, Err}
use Rattle.std.proofs.Math.Path.{refl, sym, ap}
use Rattle.std.proofs.Common.{ap₂, ◌∙◌, arith, le-ltb}
use Rattle.std.proofs.Math.Bool.{true, false}
use mathlib.Core.List.{List, flatten}
use Rattle.std.proofs.Math.Dec.{ltb}
use Rattle.std.proofs.Math.ListN.{length}
use Rattle.model.specs.declared.Options.{Options}
use Rattle.model.specs.declared.Refusal.{Refusal}
use Rattle.model.specs.Answers.{Answer, Accepted, NonHermitianAxis, ExpansionLimit}
use Rattle.model.specs.Lists.{when◌then◌else◌}
use Rattle.model.specs.Program.{Program}
use Rattle.model.specs.Rules.{Rules, rules_of}
use Rattle.model.specs.Run.{Run, Ending, non_hermitian, finished, end_answer, answer_of}
use Rattle.model.specs.Checking.{Lent}
use Rattle.model.specs.Rewriting.{Reply, zeros, stopped, accepted, after_ending, after_run}
use Rattle.theory.specs.Cases.{if_true, if_false}
use Rattle.theory.specs.AcceptedRun.{hermitian_ending, hermitian_peak}
use Rattle.layout.specs.declared.Shape.{Shape}
use Rattle.axes.specs.Held.{held_count}
use Rattle.records.specs.Given.{program_in}
use Rattle.packing_answer.specs.declared.PackingRefusal.{PackingRefusal}
use Rattle.packing_answer.specs.Answer.{packing_answer}
use Rattle.packing.specs.Packed.{PackPre}
use Rattle.points.specs.Points.{SameLong, OptionsIn}
use Rattle.layout.specs.Rows.{items_row}
use Rattle.items.specs.View.{item_said, view_length}
use Rattle.results.specs.Zeros.{zeros_same, then_same}
use Rattle.results.specs.Finish.{FinishPre, Finished, finish_pre, finished_are}
use Rattle.decision.specs.declared.Decided.{Decided}
use Rattle.decision.specs.End.{finished_in, end_barriers, DecidedAs}
use Rattle.decision.specs.Decision.{run_in, DecisionAs}
use Rattle.checking.specs.Call.{lent_of}
use Rattle.optimize.specs.declared.Rewritten.{Rewritten}
use Rattle.optimize.specs.Reply.{reply_of, reply_stopped}

-- the model's reply after Checking, s lent
abbrev pub reply_in : Shape → Options → List ℕ → List ℕ → List ℕ → Lent → Reply
reply_in z o ns os rs s = after_run (rules_of o) (program_in z ns os rs) s z.limit (run_in z o ns os rs)

-- ---- the model's reply

module _ (g : Rules) (p : Program) (s : Lent) where
  ending_refused : (a : Answer) (e : Ending) → end_answer e ≡ a → (a ≡ Accepted → ⊥) → after_ending g p s e ≡ stopped a s
  unfolding after_ending
  ending_refused a non_hermitian e n = ap (λ (b : Answer). stopped b s) e
  ending_refused a (finished f) e n = absurd (n (sym e))

  -- a refusal by the run's answer
  run_stopped : (limit : ℕ) (whole : Run) (a : Answer) → answer_of limit whole ≡ a → (a ≡ Accepted → ⊥)
      → after_run g p s limit whole ≡ stopped a s
  unfolding after_run answer_of
  run_stopped limit whole a e n = go (ltb limit whole.peak) refl
    where
      go : (b : Bool) → ltb limit whole.peak ≡ b → after_run g p s limit whole ≡ stopped a s
      go true f = if_true _ _ f ∙ ap (λ (b : Answer). stopped b s) (sym (if_true _ _ f) ∙ e)
      go false f = if_false _ _ f ∙ ending_refused a whole.ending (sym (if_false _ _ f) ∙ e) n

-- what the slices hold after a run depends on the lengths of the work stores alone
stopped_same : (a : Answer) {ws xs vs ys : List ℕ} (to rt : List ℕ) → SameLong ws xs vs ys
    → stopped a (lent_of vs ys to rt) ≡ stopped a (lent_of ws xs to rt)
unfolding stopped
stopped_same a {ws} {xs} {vs} {ys} to rt e = rw (zeros_same ws vs e.words, zeros_same xs ys e.numbers) refl

ending_same : (g : Rules) (p : Program) {ws xs vs ys : List ℕ} (to rt : List ℕ) (x : Ending) → SameLong ws xs vs ys
    → after_ending g p (lent_of vs ys to rt) x ≡ after_ending g p (lent_of ws xs to rt) x
unfolding after_ending accepted
ending_same g p to rt non_hermitian e = stopped_same NonHermitianAxis to rt e
ending_same g p {ws} {xs} {vs} {ys} to rt (finished f) e =
    rw (then_same ws vs (flatten f.end.store.axes) e.words, zeros_same xs ys e.numbers) refl

reply_same : (z : Shape) (o : Options) (ns os rs : List ℕ) {ws xs vs ys : List ℕ} (to rt : List ℕ) → SameLong ws xs vs ys
    → reply_in z o ns os rs (lent_of vs ys to rt) ≡ reply_in z o ns os rs (lent_of ws xs to rt)
unfolding after_run
reply_same z o ns os rs to rt e =
    let whole = run_in z o ns os rs in
    ap₂ (λ (a b : Reply). when ltb z.limit whole.peak then a else b) (stopped_same ExpansionLimit to rt e)
    (ending_same (rules_of o) (program_in z ns os rs) to rt whole.ending e)

-- ---- an accepted run

-- the results fit their slices
pub record ResultsFit (z : Shape) (to rt : List ℕ) : Type 0 where
  pub operations : 6 * z.operations ≤ length to
  pub rows : 8 * z.qubits ≤ length rt

pub record AcceptPre (z : Shape) (o : Options) (ns os rs : List ℕ) (x : Decided) (ws xs to rt : List ℕ) : Type 0 where
  pub decided : DecidedAs z o ns os rs ws xs x xs
  pub fit : ResultsFit z to rt

module _ (o : Options) {z : Shape} {ns os rs : List ℕ} {x : Decided} {ws xs to rt : List ℕ} (h : AcceptPre z o ns os rs x ws xs to rt) where
  abbrev p : Program
  p = program_in z ns os rs

  pub accept_finish : FinishPre z os x.items x.axes ws xs to rt
  accept_finish =
      let d = h.decided in
      finish_pre d.given d.granted d.work (end_barriers o d.given d.hermitian) to rt h.fit.operations h.fit.rows

  -- the model accepts
  accepted_is : reply_in z o ns os rs (lent_of ws xs to rt) ≡ accepted (rules_of o) p (lent_of ws xs to rt) (finished_in z o ns os rs)
  unfolding after_run after_ending
  accepted_is =
      let d = h.decided in
      let peak = hermitian_peak (rules_of o) o.rounds p d.hermitian in
      if_false _ _ (le-ltb z.limit (run_in z o ns os rs).peak (omega (arith, peak, d.work.within)))
      ∙ ap (after_ending (rules_of o) p (lent_of ws xs to rt)) (hermitian_ending (rules_of o) o.rounds p d.hermitian)

  pub accept_done : {vs ys to' rt' : List ℕ} → Finished z os x.items x.axes x.changed ws xs to rt vs ys to' rt'
      → reply_of (Ok (record { counters = x.counters; operations = x.items; axes = x.axes })) (lent_of vs ys to' rt')
      ≡ reply_in z o ns os rs (lent_of ws xs to rt)
  unfolding accepted
  accept_done f =
      let d = h.decided in
      let items = sym (sym (ap length d.work.items) ∙ view_length item_said xs z.u items_row 0 x.items) in
      let lent =
      finished_are d.given d.granted d.work (end_barriers o d.given d.hermitian) (lent_of ws xs to rt) x.changed
      d.changed refl refl f in
      rw (accepted_is, d.counters, items, sym (held_count d.work.axes), lent) refl

-- ---- by the decision

pub record ConcludePre (z : Shape) (o : Options) (ns os rs : List ℕ) (d : Result Decided PackingRefusal) (ws xs to rt : List ℕ) : Type 0 where
  pub ws₀ : List ℕ
  pub xs₀ : List ℕ
  pub decision : DecisionAs z o ns os rs ws₀ xs₀ d ws xs
  pub fit : ResultsFit z to rt

module _ (o : Options) {z : Shape} {ns os rs : List ℕ} {d : Result Decided PackingRefusal} {ws xs to rt : List ℕ}
    (h : ConcludePre z o ns os rs d ws xs to rt) where
  pub conclude_accept : (x : Decided) → d ≡ Ok x → AcceptPre z o ns os rs x ws xs to rt
  conclude_accept x e = record { decided = h.decision.done x e; fit = h.fit }

  pub conclude_stop : {e : PackingRefusal} {r : Refusal} → d ≡ Err e → packing_answer (Err e) ≡ Err r → {vs ys : List ℕ}
      → vs ≡ zeros ws → ys ≡ zeros xs → reply_of (Err r) (lent_of vs ys to rt) ≡ reply_in z o ns os rs (lent_of ws xs to rt)
  conclude_stop {e} {r} f g words numbers =
      reply_stopped r ws xs to rt words numbers
      ∙ sym (run_stopped (rules_of o) (program_in z ns os rs) (lent_of ws xs to rt) z.limit (run_in z o ns os rs) (Err r)
      (h.decision.refused e f ∙ g) (λ k. cc))

-- ---- from the start

pub record RunPre (z : Shape) (o : Options) (ns os rs ws xs to rt : List ℕ) : Type 0 where
  pub pack : PackPre z ns os rs ws xs
  pub options : OptionsIn o
  pub fit : ResultsFit z to rt

module _ {z : Shape} {o : Options} {ns os rs : List ℕ} {ws xs to rt : List ℕ} (h : RunPre z o ns os rs ws xs to rt)
    {d : Result Decided PackingRefusal} {vs ys : List ℕ} (k : DecisionAs z o ns os rs ws xs d vs ys) where
  pub run_conclude : ConcludePre z o ns os rs d vs ys to rt
  run_conclude = record { ws₀ = ws; xs₀ = xs; decision = k; fit = h.fit }

  pub run_done : (r : Result Rewritten Refusal) {s : Lent} → reply_of r s ≡ reply_in z o ns os rs (lent_of vs ys to rt)
      → reply_of r s ≡ reply_in z o ns os rs (lent_of ws xs to rt)
  run_done r q = q ∙ reply_same z o ns os rs to rt k.long
