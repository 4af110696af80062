-- The loop's invariant: nothing is kept for the places before i. Assumes nothing.
use mathlib.Core.Path.{◌≡◌}
use Prim.Native.Nat.{◌-◌, ◌≤◌}
use lib.ListN.{length}
use Rattle.triples.specs.Forgotten.{Forgotten}
use Rattle.triples.proofs.forget.Given as goal

abbrev pub invariant-loop-i : goal.invariant-loop-i
invariant-loop-i l =
    (l.from ≤ l.i) × (l.i ≤ l.end) × (length l.numbers ≡ length l.initial.numbers) × Forgotten l.initial.numbers l.u l.from l.i l.numbers

abbrev pub decreases-loop-i : goal.decreases-loop-i
decreases-loop-i l = l.end - l.i
