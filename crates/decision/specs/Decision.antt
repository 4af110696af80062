-- How a run ends: its last refusal, or its end. Assumes nothing.
use Rattle.std.specs.Prelude.{◌≡◌, refl, List, ℕ, ◌<◌, Result, Ok, Err}
use Rattle.std.proofs.Common.{sym, ap, ◌∙◌, subst, arith}
use Rattle.pauli.specs.Word.{width}
use Rattle.model.specs.declared.Options.{Options}
use Rattle.model.specs.Program.{Program}
use Rattle.model.specs.Packing.{packed}
use Rattle.model.specs.Rules.{rules_of}
use Rattle.model.specs.Rounds.{Work, passes}
use Rattle.model.specs.Run as model
use Rattle.model.specs.Run.{start_of, end_of, run, answer_of}
use Rattle.theory.specs.Limit.{beyond_answer}
use Rattle.theory.specs.AcceptedRun.{hermitian_peak}
use Rattle.layout.specs.declared.Shape.{Shape}
use Rattle.layout.specs.Shape.{granted_same}
use Rattle.records.specs.Given.{program_in}
use Rattle.packing_answer.specs.declared.PackedAxes.{PackedAxes}
use Rattle.packing_answer.specs.declared.PackingRefusal.{PackingRefusal}
use Rattle.packing_answer.specs.declared.PackingRefusal.TheVariants as packs
use Rattle.packing_answer.specs.Answer.{packing_answer}
use Rattle.packing_answer.specs.Run.{run_refused}
use Rattle.packing.specs.Packed.{PackedAs}
use Rattle.steps.specs.declared.State.{State}
use Rattle.steps.specs.State.{first_state}
use Rattle.model.specs.declared.ExpansionLimit.{ExpansionLimit}
use Rattle.model.specs.Interface.{expansion_limit}
use Rattle.points.specs.Points.{RunAt, SameLong, EndedAs, long_then}
use Rattle.decision.specs.declared.Started.{Started}
use Rattle.decision.specs.declared.Decided.{Decided}
use Rattle.decision.specs.Start.{PackedIn, StartedAs, packed_granted, packed_hermitian, width_is, start_well}
use Rattle.decision.specs.End.{end_in, EndPre, DecidedAs}

-- the model's run
abbrev pub run_in : Shape → Options → List ℕ → List ℕ → List ℕ → model.Run
run_in z o ns os rs = run (rules_of o) o.rounds (program_in z ns os rs)

-- the work stores keep their lengths; a run that is done is the model's end, a refusal the model's answer
pub record DecisionAs (z : Shape) (o : Options) (ns os rs ws xs : List ℕ) (d : Result Decided PackingRefusal) (vs ys : List ℕ) : Type 0 where
  pub long : SameLong ws xs vs ys
  pub done : (x : Decided) → d ≡ Ok x → DecidedAs z o ns os rs vs ys x ys
  pub refused : (e : PackingRefusal) → d ≡ Err e → answer_of z.limit (run_in z o ns os rs) ≡ packing_answer (Err e)

-- a refusal
decides_refused : {z : Shape} {o : Options} {ns os rs ws xs vs ys : List ℕ} {e : PackingRefusal} → SameLong ws xs vs ys
    → answer_of z.limit (run_in z o ns os rs) ≡ packing_answer (Err e) → DecisionAs z o ns os rs ws xs (Err e) vs ys
decides_refused {z} {o} {ns} {os} {rs} {e = e} long r = record {
  long = long;
  done = λ x f. cc;
  refused = λ g f. let same : e ≡ g = cc in r ∙ ap (λ (x : PackingRefusal). packing_answer (Err x)) same;
}

-- ---- the passes

pub first_run : {z : Shape} {o : Options} {ns os rs : List ℕ} {n : ℕ} {ws xs : List ℕ} {s : Started} {ys : List ℕ}
    → PackedIn z ns os rs n ws xs → StartedAs z o ns os rs n ws xs s ys → {first : State} {q : ℕ}
    → q ≡ (packed (program_in z ns os rs)).store.peak → first ≡ first_state n q s.items
    → RunAt z 0 first ws ys (program_in z ns os rs) (start_of (program_in z ns os rs))
unfolding start_of
first_run h a f e = rw (e, f) (record {
  granted = granted_same (packed_granted h) refl a.long;
  work = a.work;
  well = start_well h;
  merges = refl;
  swaps = refl;
  absorbed = refl;
  few = omega arith;
})

-- the model's end, from the start
end_is : (o : Options) (l : ℕ) (p : Program) → l ≡ width p.qubits
    → passes o.strategy l (rules_of o) o.rounds (start_of p) ≡ end_of (rules_of o) o.rounds p
unfolding end_of rules_of
end_is o l p e = ap (λ (m : ℕ). passes o.strategy m (rules_of o) o.rounds (start_of p)) e

module _ (o : Options) {z : Shape} {ns os rs : List ℕ} {n : ℕ} {ws xs : List ℕ} {s : Started} {t : List ℕ}
    (h : PackedIn z ns os rs n ws xs) (a : StartedAs z o ns os rs n ws xs s t) {first : State} {q : ℕ}
    (tested : q ≡ (packed (program_in z ns os rs)).store.peak) (begins : first ≡ first_state n q s.items)
    {e : Result State ExpansionLimit} {vs ys : List ℕ} (ran : SameLong ws t vs ys × ((p : Program) (w : Work) → RunAt z 0 first ws t p w
    → EndedAs z 511 e vs ys p (passes o.strategy z.l (rules_of o) o.rounds w))) where
  ended_as : EndedAs z 511 e vs ys (program_in z ns os rs) (end_in z o ns os rs)
  ended_as =
      let p = program_in z ns os rs in
      subst (EndedAs z 511 e vs ys p) (end_is o z.l p (width_is h)) (ran.1 p (start_of p) (first_run h a tested begins))

  long_here : SameLong ws xs vs ys
  long_here = record { words = ran.0.words; numbers = ran.0.numbers ∙ a.long }

  -- where packing refuses nothing, the run's peak is its end's
  pub passes_limit : e ≡ Err expansion_limit → DecisionAs z o ns os rs ws xs (Err packs.ExpansionLimit) vs ys
  passes_limit f =
      decides_refused long_here
      (beyond_answer z.limit (run_in z o ns os rs)
      (subst (λ (m : ℕ). z.limit < m) (sym (hermitian_peak (rules_of o) o.rounds (program_in z ns os rs) (packed_hermitian h)))
      (ended_as.refused f)))

  pub passes_end : (st : State) → e ≡ Ok st → EndPre z o ns os rs s st vs ys
  passes_end st f = record {
    given = h.pre.given;
    hermitian = packed_hermitian h;
    at = ended_as.done st f;
    weight = a.weight;
    depth = a.depth;
  }

  pub passes_done : {d : Decided} {us : List ℕ} → DecidedAs z o ns os rs vs ys d us → DecisionAs z o ns os rs ws xs (Ok d) vs us
  passes_done {d} {us} k = record {
    long = record { words = ran.0.words; numbers = k.long ∙ long_here.numbers };
    done = λ x f.
        let b : d ≡ x = cc in
        subst (λ (y : Decided). DecidedAs z o ns os rs vs us y us) b (record {
          given = k.given;
          hermitian = k.hermitian;
          granted = k.granted;
          work = k.work;
          counters = k.counters;
          changed = k.changed;
          long = refl;
        });
    refused = λ g f. cc;
  }

-- ---- packing

packed_long : {z : Shape} {p : Program} {r : Result PackedAxes PackingRefusal} {ws xs vs ys : List ℕ} → PackedAs z p r ws xs vs ys
    → SameLong ws xs vs ys
packed_long h = record { words = h.words.long; numbers = h.numbers.long }

module _ {z : Shape} {ns os rs ws xs vs ys : List ℕ} {r : Result PackedAxes PackingRefusal}
    (h : PackedAs z (program_in z ns os rs) r ws xs vs ys) where
  pub decide_passes : {o : Options} {d : Result Decided PackingRefusal} {ws₂ xs₂ : List ℕ} → DecisionAs z o ns os rs vs ys d ws₂ xs₂
      → DecisionAs z o ns os rs ws xs d ws₂ xs₂
  decide_passes k = record { long = long_then (packed_long h) k.long; done = k.done; refused = k.refused }

  -- packing's refusal is the run's
  pub decide_refused : (o : Options) {e : PackingRefusal} → r ≡ Err e → DecisionAs z o ns os rs ws xs (Err e) vs ys
  decide_refused o {e} f =
      decides_refused (packed_long h) (run_refused (rules_of o) o.rounds (program_in z ns os rs) z.limit e (sym h.answer ∙ f))
