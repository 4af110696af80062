-- The loop's invariant: the numbers so far are in both. Assumes nothing.
use Rattle.std.proofs.Common.{◌≡◌}
use Rattle.axes.specs.Pick.{total_to, hash_to}
use Rattle.interning.proofs.sums_of.Given as goal

abbrev pub invariant-loop-number : goal.invariant-loop-number
invariant-loop-number l = (l.total ≡ total_to l.w l.number-index) × (l.hash ≡ hash_to l.w l.number-index)
