-- The loop's invariant: the items of the first i operations are there. Assumes nothing.
use mathlib.Core.Path.{◌≡◌}
use Prim.Native.Nat.{◌≤◌}
use Rattle.start.specs.Build.{ItemsBuilt}
use Rattle.start.proofs.build_items.Given as goal

abbrev pub invariant-loop-i : goal.invariant-loop-i
invariant-loop-i l =
    (l.i ≤ l.i-end) × (l.i-end ≡ l.shape.operations) × ItemsBuilt l.shape l.axes l.operations l.words l.initial.numbers l.i l.k l.numbers
