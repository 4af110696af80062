-- Demand 3, the T-count, about calls of Rewriting. Assumes nothing.
use Rattle.std.specs.Prelude.{◌≡◌, false, ◌≤◌, length}
use Rattle.std.proofs.Math.Path.{refl}
use Rattle.std.proofs.Common.{sym, ap, ◌∙◌}
use Rattle.model.specs.declared.Options.{Options}
use Rattle.model.specs.Answers.{Accepted}
use Rattle.model.specs.Program.{Job, program_of}
use Rattle.model.specs.Rules.{rules_of}
use Rattle.model.specs.Packing.{packed}
use Rattle.model.specs.Run.{Finished, end_of, answer_of}
use Rattle.model.specs.Results.{counters_of}
use Rattle.model.specs.Checking.{Lent, checking}
use Rattle.model.specs.Rewriting.{Reply, accepted, after_ending, rewriting}
use Rattle.theory.specs.Checked.{checked_fine}
use Rattle.theory.specs.Alike.{Alike, alike_program}
use Rattle.theory.specs.Replies.{run_of, limit_of, within_limit, run_answer, ran}
use Rattle.theory.specs.AcceptedRun.{finish_of, accepted_peak, accepted_roots, accepted_ending, counters_source, counters_rounds}

module _ (o : Options) (j : Job) (s : Lent) (yes' : (rewriting o j s).answer ≡ Accepted) where
  abbrev finish : Finished
  finish = finish_of (rules_of o) o.rounds (program_of j)

  -- Checking has passed
  pub accepted_checks : checking o j s ≡ Accepted
  accepted_checks = ran o j s Accepted yes' refl

  answers : answer_of (limit_of o) (run_of o j) ≡ Accepted
  answers = sym (run_answer o j s accepted_checks) ∙ yes'

  -- the limit was not passed
  pub accepted_within : (run_of o j).peak ≤ limit_of o
  accepted_within = accepted_peak (limit_of o) (rules_of o) o.rounds (program_of j) answers

  -- no root was refused
  pub accepted_hermitian : (packed (program_of j)).refused ≡ false
  accepted_hermitian = accepted_roots (limit_of o) (rules_of o) o.rounds (program_of j) answers

  -- an accepted call replies what the end of its run says
  pub accepted_reply : rewriting o j s ≡ accepted (rules_of o) (program_of j) s finish
  accepted_reply =
      within_limit o j s accepted_checks accepted_within
      ∙ ap (after_ending (rules_of o) (program_of j) s) (accepted_ending (limit_of o) (rules_of o) o.rounds (program_of j) answers)
      ∙ unfold after_ending in refl

  -- and its counters are the run's
  pub accepted_counters : (rewriting o j s).counters ≡ counters_of (rules_of o) (program_of j) finish
  accepted_counters = ap (λ (x : Reply). x.counters) accepted_reply ∙ unfold accepted in refl

  -- as are the numbers of operations that came out and of axes that are stored
  pub accepted_operations : (rewriting o j s).operations ≡ length (end_of (rules_of o) o.rounds (program_of j)).items
  accepted_operations = ap (λ (x : Reply). x.operations) accepted_reply ∙ unfold accepted in refl

  pub accepted_axes : (rewriting o j s).axes ≡ length (end_of (rules_of o) o.rounds (program_of j)).store.axes
  accepted_axes = ap (λ (x : Reply). x.axes) accepted_reply ∙ unfold accepted in refl

  -- an accepted call leaves no more T than its source has
  pub no_more_than_source : (rewriting o j s).counters.t_after ≤ (rewriting o j s).counters.t_before
  no_more_than_source =
      rw accepted_counters (counters_source (rules_of o) (program_of j) (checked_fine o j s accepted_checks) accepted_hermitian o.rounds)

-- two accepted calls that are alike but for the rounds and the limit: the one with more rounds leaves no more T
pub no_more_with_more_rounds : (o o' : Options) (j j' : Job) (s s' : Lent) → Alike j j' → rules_of o' ≡ rules_of o → o.rounds ≤ o'.rounds
    → (rewriting o j s).answer ≡ Accepted → (rewriting o' j' s').answer ≡ Accepted
    → (rewriting o' j' s').counters.t_after ≤ (rewriting o j s).counters.t_after
no_more_with_more_rounds o o' j j' s s' alike e h a a' =
    let c : (rewriting o' j' s').counters ≡ counters_of (rules_of o) (program_of j) (finish_of (rules_of o) o'.rounds (program_of j))
    = accepted_counters o' j' s' a' ∙ rw (e, alike_program j j' alike) refl in
    rw (c, accepted_counters o j s a)
    (counters_rounds (rules_of o) (program_of j) (checked_fine o j s (accepted_checks o j s a)) (accepted_hermitian o j s a) o.rounds
    o'.rounds h)
