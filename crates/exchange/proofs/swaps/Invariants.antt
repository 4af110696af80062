-- The loop's invariant: the rest of the steps from the state that memory holds now. Assumes nothing.
use mathlib.Core.Path.{◌≡◌}
use Prim.Native.Nat.{◌-◌}
use lib.ListN.{length}
use Rattle.exchange.specs.Swaps.{SwapsAt}
use Rattle.exchange.proofs.swaps.Given as goal

abbrev pub invariant-loop-at : goal.invariant-loop-at
invariant-loop-at l =
    (length l.numbers ≡ length l.initial.numbers) × SwapsAt l.z l.rules l.words l.initial.numbers l.initial.at.progress l.end l.at.progress l.at.start l.numbers

abbrev pub decreases-loop-at : goal.decreases-loop-at
decreases-loop-at l = l.end - l.at.start
