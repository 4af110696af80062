-- The loop's invariant: the sum of the pairs with the items before q. Assumes nothing.
use mathlib.Core.Path.{◌≡◌}
use Prim.Native.Nat.{◌-◌, ◌≤◌}
use Rattle.items.specs.View.{rot_said}
use Rattle.certificate.specs.Turns.{row_to}
use Rattle.certificate.proofs.row_sum.Given as goal

abbrev pub invariant-loop-q : goal.invariant-loop-q
invariant-loop-q l =
    let a = l.axes in
    (l.fn.b.from ≤ l.q) × (l.q ≤ l.fn.b.end)
    × (l.sum ≡ row_to a.sizes a.words.now a.numbers.now (rot_said l.x) l.fn.b.from l.q l.pa l.qa)

abbrev pub decreases-loop-q : goal.decreases-loop-q
decreases-loop-q l = l.fn.b.end - l.q
