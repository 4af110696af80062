-- The loop's invariant: the ends from `last` down are left. Assumes nothing.
use mathlib.Core.Path.{◌≡◌}
use lib.ListN.{length}
use Rattle.layout.specs.Only.{Only}
use Rattle.trial.specs.Plain.{exchange_rows}
use Rattle.triples.specs.Pairs.{RunsKept, ends_of, ends_at}
use Rattle.triples.proofs.try_ends.Given as goal

abbrev pub invariant-loop-last : goal.invariant-loop-last
invariant-loop-last l = record {
  long : length l.numbers ≡ length l.initial.numbers;
  only : Only exchange_rows l.z.u l.initial.numbers l.numbers;
  same : ends_of l.z l.rules l.words l.initial.numbers l.r l.s l.r.end l.left ≡ ends_at l.z l.rules l.words l.initial.numbers l.r l.s l.left l.last;
  kept : RunsKept l.z l.words l.numbers l.r;
}
