-- The place stays within the text.
use Rattle.std.proofs.Common.{◌≤◌, length}
use Rattle.jobs.proofs.read.pass_over.Given as goal

abbrev pub invariant-loop : goal.invariant-loop
invariant-loop l = l.at ≤ length l.s
