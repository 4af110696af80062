-- The images before the i-th are changed. Assumes nothing.
use Rattle.absorbing.specs.Turning.{TurnedTo}
use Prim.Native.Nat.{◌-◌, ◌≤◌}
use Rattle.absorbing.proofs.turn_images.Given as goal

abbrev pub invariant-loop-i : goal.invariant-loop-i
invariant-loop-i l = (l.i ≤ l.end) × (l.first ≤ l.i) × TurnedTo l.shape l.first l.end l.b l.k l.initial.words l.initial.numbers l.words l.numbers l.i

abbrev pub decreases-loop-i : goal.decreases-loop-i
decreases-loop-i l = l.end - l.i
