-- A run that is accepted at a limit: it was within the limit, no root was refused, and its T-count is no higher. Assumes nothing.
use Rattle.std.specs.Prelude.{◌≡◌, refl, Bool, true, false, ℕ, ◌≤◌}
use Rattle.std.proofs.Common.{sym, ap, ◌∙◌, arith}
use Rattle.model.specs.Answers.{Accepted, NonHermitianAxis}
use Rattle.model.specs.Program.{Program}
use Rattle.model.specs.Rules.{Rules}
use Rattle.model.specs.Packing.{packed}
use Rattle.model.specs.Run.{start_of, Finished, non_hermitian, finished, Run, end_of, finished_run, run, end_answer, answer_of}
use Rattle.model.specs.Results.{counters_of}
use Rattle.theory.specs.Cases.{if_true, if_false}
use Rattle.theory.specs.Checked.{Fine}
use Rattle.theory.specs.TCountRun.{more_rounds_no_more, source_no_more}
use Rattle.theory.specs.Limit.{within, within_answer}

-- how a run whose roots are all Hermitian finishes
abbrev pub finish_of : Rules → ℕ → Program → Finished
finish_of r rounds p = record { start = start_of p; end = end_of r rounds p }

-- with no root refused, the run finishes
pub hermitian_ending : (r : Rules) (rounds : ℕ) (p : Program) → (packed p).refused ≡ false → (run r rounds p).ending ≡ finished (finish_of r rounds p)
unfolding run finished_run
hermitian_ending r rounds p e = ap (λ (x : Run). x.ending) (if_false _ _ e)

-- and its peak is the one at the end
pub hermitian_peak : (r : Rules) (rounds : ℕ) (p : Program) → (packed p).refused ≡ false → (run r rounds p).peak ≡ (end_of r rounds p).store.peak
unfolding run finished_run
hermitian_peak r rounds p e = ap (λ (x : Run). x.peak) (if_false _ _ e)

-- with a root refused, it ends non-Hermitian
pub refused_ending : (r : Rules) (rounds : ℕ) (p : Program) → (packed p).refused ≡ true → (run r rounds p).ending ≡ non_hermitian
unfolding run
refused_ending r rounds p e = ap (λ (x : Run). x.ending) (if_true _ (finished_run r rounds p) e)

module _ (limit : ℕ) (r : Rules) (rounds : ℕ) (p : Program) (yes' : answer_of limit (run r rounds p) ≡ Accepted) where
  -- its sums were all within the limit
  pub accepted_peak : (run r rounds p).peak ≤ limit
  accepted_peak = within limit (run r rounds p) (λ e. let z : ◌≡◌ {A = ℕ} 0 1 = cc in omega arith)

  -- no root was refused
  pub accepted_roots : (packed p).refused ≡ false
  accepted_roots = go (packed p).refused refl
    where
      go : (t : Bool) → (packed p).refused ≡ t → (packed p).refused ≡ false
      go true e =
          let f = refused_ending r rounds p e in
          let h : NonHermitianAxis ≡ Accepted = sym (within_answer limit (run r rounds p) accepted_peak ∙ ap end_answer f) ∙ yes' in
          let z : ◌≡◌ {A = ℕ} 0 1 = cc in
          absurd (omega arith)
      go false e = e

  -- and it finished
  pub accepted_ending : (run r rounds p).ending ≡ finished (finish_of r rounds p)
  accepted_ending = hermitian_ending r rounds p accepted_roots

-- ---- the T-counts in the counters

module _ (r : Rules) (p : Program) (fine : Fine p) (hermitian : (packed p).refused ≡ false) where
  -- T after is at most T before
  pub counters_source : (rounds : ℕ) → (counters_of r p (finish_of r rounds p)).t_after ≤ (counters_of r p (finish_of r rounds p)).t_before
  unfolding counters_of end_of
  counters_source rounds = source_no_more p fine hermitian r.strategy r rounds

  -- with more rounds T after is no higher
  pub counters_rounds : (rounds rounds' : ℕ) → rounds ≤ rounds'
      → (counters_of r p (finish_of r rounds' p)).t_after ≤ (counters_of r p (finish_of r rounds p)).t_after
  unfolding counters_of end_of
  counters_rounds rounds rounds' h = more_rounds_no_more p fine hermitian r.strategy r rounds rounds' h
