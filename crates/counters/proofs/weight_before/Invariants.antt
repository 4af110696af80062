-- The loop's invariant: n is the weight of the first i operations. Assumes nothing.
use mathlib.Core.Path.{◌≡◌}
use Prim.Native.Nat.{◌≤◌}
use Rattle.counters.specs.SourceWeight.{SourceTo}
use Rattle.counters.proofs.weight_before.Given as goal

abbrev pub invariant-loop-i : goal.invariant-loop-i
invariant-loop-i l =
    (l.i ≤ l.i-end) × (l.i-end ≡ l.shape.operations) × SourceTo l.operations l.words l.numbers l.shape.u l.shape.l l.shape.operations l.i l.n
