-- The loop's invariant: the starts from s on are left, and `left` pairs. Assumes nothing.
use mathlib.Core.Path.{◌≡◌}
use lib.ListN.{length}
use Rattle.layout.specs.Only.{Only}
use Rattle.trial.specs.Plain.{exchange_rows}
use Rattle.triples.specs.Pairs.{RunsKept, search_of, starts_of}
use Rattle.triples.proofs.try_starts.Given as goal

abbrev pub invariant-loop-s : goal.invariant-loop-s
invariant-loop-s l = record {
  long : length l.numbers ≡ length l.initial.numbers;
  only : Only exchange_rows l.z.u l.initial.numbers l.numbers;
  same : search_of l.z l.rules l.words l.initial.numbers l.r ≡ starts_of l.z l.rules l.words l.initial.numbers l.r l.s l.left;
  kept : RunsKept l.z l.words l.numbers l.r;
}
