-- 01, "Turning work down", Rewriting: a call's answer, its counters, how many operations and axes there are, and what each lent slice holds
-- afterwards. Assumes nothing.
use Rattle.std.specs.Prelude.{◌≡◌, ℕ, ◌-◌, length, replicate}
use mathlib.Core.List.{List, ◌++◌, flatten}
use Rattle.model.specs.declared.Options.{Options}
use Rattle.model.specs.Answers.{Answer, Accepted, NonHermitianAxis, ExpansionLimit}
use Rattle.model.specs.declared.Counters.{Counters}
use Rattle.model.specs.Lists.{when◌then◌else◌}
use Rattle.model.specs.Interface.{accepts, no_counters}
use Rattle.model.specs.Program.{Job, Program, program_of}
use Rattle.model.specs.Rules.{Rules, rules_of}
use Rattle.model.specs.Run.{Finished, Ending, non_hermitian, finished, Run, run, under_limit}
use Rattle.model.specs.Results.{operation_results, row_results, counters_of}
use Rattle.model.specs.Checking.{Lent, checking}

-- "answer, .. operations, axes" are a listing's: how many operations came out, and how many axes are stored
pub record Reply : Type 0 where
  pub answer : Answer
  pub counters : Counters
  pub operations : ℕ
  pub axes : ℕ
  pub lent : Lent

-- xs, then zeros, as long as the slice s is
unfoldable pub then_zeros : List ℕ → List ℕ → List ℕ
then_zeros s xs = xs ++ replicate (length s - length xs) 0

unfoldable pub zeros : List ℕ → List ℕ
zeros s = replicate (length s) 0

-- 1 to 8: nothing is written. "After any refusal counters are 0."
unfoldable pub refused : Answer → Lent → Reply
refused a s = record { answer = a; counters = no_counters; operations = 0; axes = 0; lent = s }

-- 9 and 10: the work stores are zero, the results as they were
unfoldable pub stopped : Answer → Lent → Reply
stopped a s = record {
  answer = a;
  counters = no_counters;
  operations = 0;
  axes = 0;
  lent = record { words = zeros s.words; numbers = zeros s.numbers; operations = s.operations; rows = s.rows };
}

-- "Acceptance (0): results, then zeros; axis words, then zeros; number store zero."
unfoldable pub accepted : Rules → Program → Lent → Finished → Reply
accepted r p s f = record {
  answer = Accepted;
  counters = counters_of r p f;
  operations = length f.end.items;
  axes = length f.end.store.axes;
  lent = record {
    words = then_zeros s.words (flatten f.end.store.axes);
    numbers = zeros s.numbers;
    operations = then_zeros s.operations (flatten (operation_results p f.end));
    rows = then_zeros s.rows (flatten (row_results p f.end));
  };
}

unfoldable pub after_ending : Rules → Program → Lent → Ending → Reply
after_ending r p s non_hermitian = stopped NonHermitianAxis s
after_ending r p s (finished f) = accepted r p s f

unfoldable pub after_run : Rules → Program → Lent → ℕ → Run → Reply
after_run r p s limit whole = under_limit limit whole (stopped ExpansionLimit s) (after_ending r p s)

-- "Checking, then in Rust's order"
unfoldable pub rewriting : Options → Job → Lent → Reply
rewriting o j s =
    let next = after_run (rules_of o) (program_of j) s o.max_packed_words (run (rules_of o) o.rounds (program_of j)) in
    when accepts (checking o j s) then next else refused (checking o j s) s

-- with options o, job j and slices s lent, a call of Rewriting answered a, counted c, m operations and n axes, and left the slices t: what
-- every public form of Rewriting ensures, and what all promises about it are made of
pub record Called (o : Options) (j : Job) (s : Lent) (a : Answer) (c : Counters) (m n : ℕ) (t : Lent) : Type 0 where
  pub replied : ◌≡◌ {A = Reply} (record { answer = a; counters = c; operations = m; axes = n; lent = t }) (rewriting o j s)
