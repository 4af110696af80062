-- Places i and later have not had their turn. Assumes nothing.
use Prim.Native.Nat.{◌-◌}
use Rattle.stream_items.specs.WaitingList.{Scan}
use Rattle.stream_items.proofs.absorb_listed.Given as goal

abbrev pub invariant-loop-i : goal.invariant-loop-i
invariant-loop-i l = Scan l.shape l.initial.st l.n l.only l.initial.words l.initial.numbers l.words l.numbers l.st l.i

abbrev pub decreases-loop-i : goal.decreases-loop-i
decreases-loop-i l = l.n - l.i
