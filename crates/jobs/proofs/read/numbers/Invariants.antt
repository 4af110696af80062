-- The place stays within the text.
use Rattle.std.proofs.Common.{◌≤◌, length}
use Rattle.jobs.proofs.read.numbers.Given as goal

abbrev pub invariant-loop-x : goal.invariant-loop-x
invariant-loop-x l = l.at ≤ length l.s
