-- The loop's invariant: the rotations before i are merged. Assumes nothing.
use Prim.Native.Nat.{◌-◌, ◌≤◌}
use mathlib.Core.Path.{◌≡◌}
use lib.ListN.{length}
use Rattle.trial.specs.Plain.{MergedAll}
use Rattle.trial.proofs.merge_trial.Given as goal

abbrev pub invariant-loop-i : goal.invariant-loop-i
invariant-loop-i l = (l.i ≤ l.n) × (length l.numbers ≡ length l.initial.numbers) × MergedAll l.z l.words l.initial.numbers l.n l.i l.numbers

abbrev pub decreases-loop-i : goal.decreases-loop-i
decreases-loop-i l = l.n - l.i
