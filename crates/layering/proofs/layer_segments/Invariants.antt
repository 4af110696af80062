-- The rest of the pass, from the state that memory holds, is the whole pass. Assumes nothing.
use Prim.Native.Nat.{◌-◌}
use Rattle.layering.specs.Segments.{PassTo}
use Rattle.layering.proofs.layer_segments.Given as goal

abbrev pub invariant-loop-st : goal.invariant-loop-st
invariant-loop-st l = PassTo l.z l.words l.initial.numbers l.count l.st l.numbers

abbrev pub decreases-loop-st : goal.decreases-loop-st
decreases-loop-st l = l.count - l.st.from
