-- The loop's invariant: n is the weight of the first i items. Assumes nothing.
use Prim.Native.Nat.{◌≤◌}
use Rattle.counters.specs.Weight.{WeightTo}
use Rattle.counters.proofs.weight_after.Given as goal

abbrev pub invariant-loop-i : goal.invariant-loop-i
invariant-loop-i l = (l.i ≤ l.k) × WeightTo l.operations l.words l.numbers l.shape.u l.shape.l l.k l.i l.n
