-- Items i and later are still to be read, by the present rules. Assumes nothing.
use Prim.Native.Nat.{◌-◌}
use Rattle.stream_items.specs.Loop.{Reading}
use Rattle.stream_items.proofs.stream_items.Given as goal

abbrev pub invariant-loop-i : goal.invariant-loop-i
invariant-loop-i l = Reading l.shape l.initial.present l.present l.items l.initial.st l.initial.words l.initial.numbers l.words l.numbers l.st l.i

abbrev pub decreases-loop-i : goal.decreases-loop-i
decreases-loop-i l = l.items - l.i
