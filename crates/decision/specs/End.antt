-- The end of a run that is not refused, and its counters. Assumes nothing.
use Rattle.std.specs.Prelude.{◌≡◌, refl, false, not, List, ℕ, eqb, length}
use Rattle.std.proofs.Common.{sym, ap, ◌∙◌, subst}
use Rattle.pauli.specs.Word.{width}
use Rattle.model.specs.declared.Options.{Options}
use Rattle.model.specs.declared.Counters.{Counters}
use Rattle.model.specs.Program.{Program}
use Rattle.model.specs.Packing.{packed}
use Rattle.model.specs.Rules.{rules_of}
use Rattle.model.specs.Rounds.{Work}
use Rattle.model.specs.Run.{Finished, start_of, end_of}
use Rattle.model.specs.Results.{source_weight, depth_of, counters_of}
use Rattle.theory.specs.Every.{Every}
use Rattle.theory.specs.StreamState.{barriers_of}
use Rattle.theory.specs.AcceptedRun.{finish_of}
use Rattle.layout.specs.declared.Shape.{Shape}
use Rattle.layout.specs.Shape.{Granted, granted_same}
use Rattle.axes.specs.Held.{sizes_of}
use Rattle.records.specs.Given.{Given, program_in}
use Rattle.packing_states.specs.InMemory.{given_shape}
use Rattle.work.specs.Work.{WorkIn}
use Rattle.results.specs.Barriers.{BarrierOf, start_barriers}
use Rattle.depth.specs.Demands.{DepthPre}
use Rattle.counters.specs.declared.RunCounts.{RunCounts}
use Rattle.counters.specs.Summary.{SummaryPre, Summed, CountsOf, summary_pre, summary_is}
use Rattle.run_wellformed.specs.WorkWell as well
use Rattle.steps.specs.declared.State.{State}
use Rattle.points.specs.Points.{RunAt}
use Rattle.points.specs.Demands.{depth_pre}
use Rattle.decision.specs.declared.Started.{Started}
use Rattle.decision.specs.declared.Decided.{Decided}
use Rattle.decision.specs.Depth.{DepthAs, work_kept, depth_is}

-- the model's end, and how the run finishes
abbrev pub end_in : Shape → Options → List ℕ → List ℕ → List ℕ → Work
end_in z o ns os rs = end_of (rules_of o) o.rounds (program_in z ns os rs)

abbrev pub finished_in : Shape → Options → List ℕ → List ℕ → List ℕ → Finished
finished_in z o ns os rs = finish_of (rules_of o) o.rounds (program_in z ns os rs)

-- the passes are done, and the start was counted
pub record EndPre (z : Shape) (o : Options) (ns os rs : List ℕ) (s : Started) (st : State) (ws xs : List ℕ) : Type 0 where
  pub given : Given z ns os rs
  pub hermitian : (packed (program_in z ns os rs)).refused ≡ false
  pub at : RunAt z 511 st ws xs (program_in z ns os rs) (end_in z o ns os rs)
  pub weight : s.weight ≡ source_weight (program_in z ns os rs)
  pub depth : s.depth ≡ depth_of (rules_of o) (program_in z ns os rs) (start_of (program_in z ns os rs))

-- the barriers of the end are measurements and conditional rotations
pub end_barriers : {z : Shape} {ns os rs : List ℕ} (o : Options) → Given z ns os rs → (packed (program_in z ns os rs)).refused ≡ false
    → Every (BarrierOf (program_in z ns os rs).operations) (barriers_of (end_in z o ns os rs).items)
end_barriers {z} {ns} {os} {rs} o given e =
    let p = program_in z ns os rs in
    well.end_barriers p given.fine e (rules_of o) o.rounds (BarrierOf p.operations) (start_barriers p)

-- memory holds the model's end, d its counters
pub record DecidedAs (z : Shape) (o : Options) (ns os rs ws xs : List ℕ) (d : Decided) (ys : List ℕ) : Type 0 where
  pub given : Given z ns os rs
  pub hermitian : (packed (program_in z ns os rs)).refused ≡ false
  pub granted : Granted z ws ys
  pub work : WorkIn z (program_in z ns os rs) (end_in z o ns os rs) d.axes d.items (end_in z o ns os rs).store.peak ws ys
  pub counters : d.counters ≡ counters_of (rules_of o) (program_in z ns os rs) (finished_in z o ns os rs)
  pub changed : d.changed ≡ not (eqb (end_in z o ns os rs).absorbed 0)
  pub long : length ys ≡ length xs

module _ {z : Shape} {o : Options} {ns os rs : List ℕ} {s : Started} {st : State} {ws xs : List ℕ} (h : EndPre z o ns os rs s st ws xs) where
  abbrev p : Program
  p = program_in z ns os rs

  pub end_depth : DepthPre (sizes_of z st.axes) ws xs st.out
  end_depth = depth_pre h.at.granted h.at.work h.at.well

  module _ {d : ℕ} {ys : List ℕ} (f : DepthAs (sizes_of z st.axes) o.measure_depth ws xs st.out d ys) where
    granted : Granted z ws ys
    granted = granted_same h.at.granted refl f.only.long

    work : WorkIn z (program_in z ns os rs) (end_in z o ns os rs) st.axes st.out st.peak ws ys
    work = work_kept h.at.work f.only

    pub end_summary : SummaryPre z os ws ys st.out
    end_summary =
        summary_pre h.given (finished_in z o ns os rs) granted work (end_barriers o h.given h.hermitian)
        (well.work_range h.at.well)

    abbrev counts : RunCounts
    counts = record {
      merges = st.merges;
      swaps = st.swaps;
      absorbed = st.absorbed;
      depth_before = s.depth;
      depth_after = d;
      weight_before = s.weight;
      peak = st.peak;
    }

    counts_of : CountsOf (rules_of o) (program_in z ns os rs) (finished_in z o ns os rs) counts
    counts_of = record {
      merges = h.at.merges;
      swaps = h.at.swaps;
      absorbed = h.at.absorbed;
      depth_before_lem = h.depth;
      depth_after_lem = depth_is h.at.work o (h.at.granted.sized.l_is ∙ ap width (sym (given_shape h.given).qubits)) f;
      weight_before_lem = h.weight;
      peak = sym h.at.work.peak_is;
    }

    pub end_done : {c : Counters} → Summed z os ws ys st.out counts c
        → DecidedAs z o ns os rs ws xs
        (record { items = st.out; axes = st.axes; changed = not (eqb st.absorbed 0); counters = c }) ys
    end_done m = record {
      given = h.given;
      hermitian = h.hermitian;
      granted = granted;
      work =
          subst (λ (q : ℕ). WorkIn z (program_in z ns os rs) (end_in z o ns os rs) st.axes st.out q ws ys) (sym work.peak_is) work;
      counters =
          summary_is h.given (finished_in z o ns os rs) granted work (end_barriers o h.given h.hermitian)
          (well.work_range h.at.well) (rules_of o) counts counts_of m;
      changed = ap (λ (n : ℕ). not (eqb n 0)) h.at.absorbed;
      long = f.only.long;
    }
