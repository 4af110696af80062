-- 02, M-113 by computing: the calls of specs/CutExamples.antt are such as its promise speaks of. Assumes nothing.
use Rattle.std.specs.Prelude.{◌≡◌, refl, List, [], ◌∷◌, ◌++◌, ℕ}
use Rattle.std.proofs.Common.{sym, ap}
use Rattle.model.specs.declared.Options.{Options}
use Rattle.model.specs.Answers.{Answer, Accepted}
use Rattle.model.specs.Rewriting.{Called}
use Rattle.model.specs.Everything.{everything}
use Rattle.runs.specs.Shown.{rotate, measure}
use Rattle.runs.specs.Options.{lent}
use Rattle.promises.specs.Alike.{same_with_limit}
use Rattle.promises.specs.Promises.{cut_results}
use Rattle.promises.specs.CutExamples.{two_qubits, at, reply, left, earlier, later}

-- ---- such calls are what `cut-results` speaks of

abbrev called : (o : Options) (operations : List (List ℕ)) → (reply o operations).answer ≡ Accepted
    → Called o (two_qubits operations) (lent o (two_qubits operations)) Accepted (reply o operations).counters (reply o operations).operations
    (reply o operations).axes (reply o operations).lent
called o operations e = record {
  replied = let x = reply o operations in
      ap (λ (a : Answer). record { answer = a; counters = x.counters; operations = x.operations; axes = x.axes; lent = x.lent }) (sym e);
}

-- at three limits
pub promised : left (at 32) (earlier ++ later) ≡ left (at 24) earlier ++ left (at 20) later
unfolding everything
promised =
    cut_results (called (at 32) (earlier ++ later) refl) (called (at 24) earlier refl) (called (at 20) later refl)
    (same_with_limit (at 32) 24) (same_with_limit (at 32) 20) (record { absorption = refl; strategy = refl; rounds = refl })
    (record {
      earlier_keeps = record { qubits = refl; nodes = refl; rows = refl };
      later_keeps = record { qubits = refl; nodes = refl; rows = refl };
      before = rotate 1 0 1 ∷ rotate 3 0 1 ∷ rotate 1 0 1 ∷ [];
      measurement = measure 1 0 0 5;
      measures = refl;
      ends = refl;
      joined = refl;
    })
