-- A call of Rewriting, from what its parts leave. Assumes nothing.
use Rattle.std.specs.Prelude.{ℕ, Result, Ok, Err}
use Rattle.std.proofs.Common.{sym, ◌∙◌, subst}
use Rattle.model.specs.declared.Counters.{Counters}
use Rattle.model.specs.declared.Options.{Options}
use Rattle.model.specs.declared.Refusal.{Refusal}
use Rattle.model.specs.Program.{Job}
use Rattle.model.specs.Checking.{Lent}
use Rattle.model.specs.Rewriting.{Called}
use Rattle.theory.specs.Called.{answer_is, counters_are}
use Rattle.theory.specs.Replies.{refused_counters}
use Rattle.optimize.specs.Call.{CalledBy}
use Rattle.rewriting.specs.declared.Answered.{Answered}

-- operations and axes of what is answered: after a refusal none
abbrev pub operations_in : Result Answered Refusal → ℕ
operations_in (Ok a) = a.operations
operations_in (Err e) = 0

abbrev pub axes_in : Result Answered Refusal → ℕ
axes_in (Ok a) = a.axes
axes_in (Err e) = 0

-- the counters that a refusal leaves are 0
pub refused_called : {o : Options} {j : Job} {s s' : Lent} {e : Refusal} {c : Counters} → Called o j s (Err e) c 0 0 s' → CalledBy o j s (Err e) s'
refused_called {o} {j} {s} {s'} {e} call =
    subst (λ (c : Counters). Called o j s (Err e) c 0 0 s') (sym (counters_are call) ∙ refused_counters o j s e (answer_is call)) call
