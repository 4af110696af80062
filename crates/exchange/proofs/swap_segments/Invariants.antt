-- The loop's invariant: the rest of the pass from the state that memory holds now. Assumes nothing.
use mathlib.Core.Path.{◌≡◌}
use Prim.Native.Nat.{◌-◌}
use lib.ListN.{length}
use Rattle.exchange.specs.Segments.{PassAt}
use Rattle.exchange.proofs.swap_segments.Given as goal

abbrev pub invariant-loop-st : goal.invariant-loop-st
invariant-loop-st l = (length l.numbers ≡ length l.initial.numbers) × PassAt l.z l.rules l.words l.initial.numbers l.count l.st l.numbers

abbrev pub decreases-loop-st : goal.decreases-loop-st
decreases-loop-st l = l.count - l.st.from
