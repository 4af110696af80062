-- The loop's invariant: the sum of the rows of the items before p. Assumes nothing.
use mathlib.Core.Path.{◌≡◌}
use Prim.Native.Nat.{◌-◌, ◌≤◌}
use Rattle.certificate.specs.Turns.{sum_to}
use Rattle.certificate.proofs.sum_at.Given as goal

abbrev pub invariant-loop-p : goal.invariant-loop-p
invariant-loop-p l =
    let a = l.axes in
    (l.fn.a.from ≤ l.p) × (l.p ≤ l.fn.a.end) × (l.sum ≡ sum_to a.sizes a.words.now a.numbers.now l.fn.a.from l.p l.b l.pa l.qa)

abbrev pub decreases-loop-p : goal.decreases-loop-p
decreases-loop-p l = l.fn.a.end - l.p
