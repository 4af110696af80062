-- A call of Rewriting. Assumes nothing.
use Rattle.std.specs.Prelude.{◌≡◌, false, List, ℕ, ◌≤◌, Result, Err}
use Rattle.std.proofs.Math.Path.{sym, subst}
use Rattle.std.proofs.Common.{ap, ◌∙◌, ltb-false}
use Rattle.model.specs.declared.Options.{Options}
use Rattle.model.specs.declared.Counts.{Counts}
use Rattle.model.specs.declared.Refusal.{Refusal}
use Rattle.model.specs.Answers.{Answer, Accepted, answer_in}
use Rattle.model.specs.Interface.{accepts}
use Rattle.model.specs.Program.{Job}
use Rattle.model.specs.Checking.{Lent, bad_count, bad_option, checking}
use Rattle.model.specs.Rewriting.{rewriting, Called}
use Rattle.theory.specs.Cases.{if_true, neither}
use Rattle.theory.specs.Checked.{refuses}
use Rattle.theory.specs.Replies.{refused_reply}
use Rattle.run_wellformed.specs.Lengths.{long_enough}
use Rattle.layout.specs.declared.Shape.{Shape}
use Rattle.layout.specs.Bounds.{passed}
use Rattle.layout.specs.Shape.{shape_of}
use Rattle.records.specs.Given.{program_in}
use Rattle.packing.specs.Checked.{checked_sizes, checked_pack}
use Rattle.points.specs.Points.{OptionsIn}
use Rattle.checking.specs.Call.{job_of, lent_of}
use Rattle.optimize.specs.declared.Rewritten.{Rewritten}
use Rattle.optimize.specs.Reply.{counters_in, operations_in, axes_in, reply_of, reply_refused}
use Rattle.optimize.specs.Conclusion.{reply_in, RunPre}

-- with options o, job j and slices s lent, a call handed back r and left the slices s'
abbrev pub CalledBy : Options → Job → Lent → Result Rewritten Refusal → Lent → Type 0
CalledBy o j s r s' = Called o j s (answer_in r) (counters_in r) (operations_in r) (axes_in r) s'

-- what refusal 2 grants
options_in : (o : Options) → bad_option o ≡ false → OptionsIn o
unfolding bad_option
options_in o h =
    let a = neither _ _ h in
    let b = neither _ _ a.0 in
    let c = neither _ _ b.0 in
    let d = neither _ _ c.0 in
    record { rounds = ltb-false _ _ d.0; candidates = ltb-false _ _ b.1 }

-- a is what Checking answers
module _ (o : Options) (c : Counts) (ns os rs ws xs to rt : List ℕ) {a : Answer}
    (checked : a ≡ checking o (job_of c ns os rs) (lent_of ws xs to rt)) where
  abbrev j : Job
  j = job_of c ns os rs

  abbrev s : Lent
  s = lent_of ws xs to rt

  -- 1 to 8
  pub call_refused : {e : Refusal} → a ≡ Err e → CalledBy o (job_of c ns os rs) (lent_of ws xs to rt) (Err e) (lent_of ws xs to rt)
  call_refused {e} f = record {
    replied = reply_refused e s ∙ sym (refused_reply o j s (Err e) (sym checked ∙ f) (refuses e));
  }

  module _ (accepted : a ≡ Accepted) where
    passes : checking o (job_of c ns os rs) (lent_of ws xs to rt) ≡ Accepted
    passes = sym checked ∙ accepted

    pub call_sizes : (bad_count c ≡ false) × (o.max_packed_words ≤ 1048576)
    call_sizes = checked_sizes o j s passes

    -- the shape's program is the job's
    run_called : (r : Result Rewritten Refusal) {s' : Lent}
        → reply_of r s' ≡ reply_in (shape_of c o.max_packed_words) o ns os rs (lent_of ws xs to rt)
        → CalledBy o (job_of c ns os rs) (lent_of ws xs to rt) r s'
    unfolding rewriting program_in shape_of
    run_called r k = record { replied = k ∙ sym (if_true _ _ (ap accepts passes)) }

    module _ {z : Shape} (shape : z ≡ shape_of c o.max_packed_words) where
      pub call_run : RunPre z o ns os rs ws xs to rt
      unfolding shape_of
      call_run =
          let l = long_enough o j s passes in
          subst (λ (y : Shape). RunPre y o ns os rs ws xs to rt) (sym shape) (record {
            pack = checked_pack o j s passes;
            options = options_in o (passed o j s passes).options;
            fit = record { operations = l.operations; rows = l.rows };
          })

      pub call_done : (r : Result Rewritten Refusal) {s' : Lent} → reply_of r s' ≡ reply_in z o ns os rs (lent_of ws xs to rt)
          → CalledBy o (job_of c ns os rs) (lent_of ws xs to rt) r s'
      call_done r q = run_called r (q ∙ ap (λ (y : Shape). reply_in y o ns os rs s) shape)
