-- Demand 3, equal rounds give equal results and counters: two accepted calls of Rewriting alike but for the limit. Assumes nothing.
use Rattle.std.specs.Prelude.{◌≡◌, refl}
use Rattle.std.proofs.Common.{◌∙◌}
use Rattle.model.specs.declared.Options.{Options}
use Rattle.model.specs.Answers.{Accepted}
use Rattle.model.specs.Program.{Job, program_of}
use Rattle.model.specs.Rules.{rules_of}
use Rattle.model.specs.Run.{finished}
use Rattle.model.specs.Checking.{Lent}
use Rattle.model.specs.Rewriting.{after_ending, rewriting}
use Rattle.theory.specs.Alike.{Alike, alike_program}
use Rattle.theory.specs.Limit.{SameButLimit, SameResults}
use Rattle.theory.specs.AcceptedRun.{finish_of}
use Rattle.theory.specs.TCountCalls.{accepted_reply}

-- whichever limit is the larger, and whatever the stores held
pub equal_rounds : (o o' : Options) (j j' : Job) (s s' : Lent) → Alike j j' → SameButLimit o o'
    → (rewriting o j s).answer ≡ Accepted → (rewriting o' j' s').answer ≡ Accepted
    → SameResults o j s s' (rewriting o j s) (rewriting o' j' s')
unfolding after_ending
equal_rounds o o' j j' s s' alike same a a' = record {
  ending = finished (finish_of (rules_of o) o.rounds (program_of j));
  this = accepted_reply o j s a;
  that = accepted_reply o' j' s' a' ∙ rw (same.rules, same.rounds, alike_program j j' alike) refl;
}
