-- The loop's invariant: the place is sought among the rotations before j. Assumes nothing.
use mathlib.Core.Path.{◌≡◌}
use Rattle.axes.specs.Held.{stored_axes}
use Rattle.trial.specs.Plain.{found_from}
use Rattle.trial.proofs.merge_place.Given as goal

abbrev pub invariant-loop-j : goal.invariant-loop-j
invariant-loop-j l =
    let a = l.axes in
    let z = a.sizes in
    found_from z.l (stored_axes z a.words.now) a.numbers.now z.u l.i l.i ≡ found_from z.l (stored_axes z a.words.now) a.numbers.now z.u l.i l.j
