-- The loop's invariant: the nodes of the first i operations are marked. Assumes nothing.
use mathlib.Core.Path.{◌≡◌}
use Prim.Native.Nat.{◌≤◌}
use lib.ListN.{length}
use Rattle.mentions.specs.Operations.{MarkedOperations}
use Rattle.mentions.proofs.mark_operations.Given as goal

abbrev pub invariant-loop-i : goal.invariant-loop-i
invariant-loop-i l =
    (l.i ≤ l.count) × (length l.numbers ≡ length l.initial.numbers) × MarkedOperations l.operations l.u l.i l.initial.numbers l.numbers
