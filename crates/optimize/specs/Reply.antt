-- A reply of the model as the code hands it back. Assumes nothing.
use Rattle.std.specs.Prelude.{◌≡◌, refl, List, ℕ, Result, Ok, Err}
use Rattle.model.specs.declared.Refusal.{Refusal}
use Rattle.model.specs.Answers.{answer_in}
use Rattle.model.specs.declared.Counters.{Counters}
use Rattle.model.specs.Interface.{no_counters}
use Rattle.model.specs.Checking.{Lent}
use Rattle.model.specs.Rewriting.{Reply, zeros, refused, stopped}
use Rattle.checking.specs.Call.{lent_of}
use Rattle.optimize.specs.declared.Rewritten.{Rewritten}

-- counters, operations and axes of what is handed back: after a refusal none
abbrev pub counters_in : Result Rewritten Refusal → Counters
counters_in (Ok r) = r.counters
counters_in (Err e) = no_counters

abbrev pub operations_in : Result Rewritten Refusal → ℕ
operations_in (Ok r) = r.operations
operations_in (Err e) = 0

abbrev pub axes_in : Result Rewritten Refusal → ℕ
axes_in (Ok r) = r.axes
axes_in (Err e) = 0

-- what the code hands back and the lent slices, as one reply
abbrev pub reply_of : Result Rewritten Refusal → Lent → Reply
reply_of r s = record { answer = answer_in r; counters = counters_in r; operations = operations_in r; axes = axes_in r; lent = s }

-- ---- refusals

-- 1 to 8
pub reply_refused : (e : Refusal) (s : Lent) → reply_of (Err e) s ≡ refused (Err e) s
unfolding refused
reply_refused e s = refl

-- 9 and 10: the work stores are zero
pub reply_stopped : (e : Refusal) (ws xs to rt : List ℕ) {vs ys : List ℕ} → vs ≡ zeros ws → ys ≡ zeros xs
    → reply_of (Err e) (lent_of vs ys to rt) ≡ stopped (Err e) (lent_of ws xs to rt)
unfolding stopped
reply_stopped e ws xs to rt words numbers = rw (words, numbers) refl
