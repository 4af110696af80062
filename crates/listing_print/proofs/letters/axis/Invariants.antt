-- The loop's invariant: the lines of the qubits below q are printed. Assumes nothing.
use mathlib.Core.Path.{◌≡◌}
use Prim.Native.Nat.{◌≤◌, ◌-◌, ◌*◌}
use Rattle.listing_print.specs.Printed.{Printed, joined}
use Rattle.listing_print.specs.Letters.{letter_text}
use Rattle.listing_print.proofs.letters.axis.Given as goal

abbrev pub invariant-loop-q : goal.invariant-loop-q
invariant-loop-q l = (l.q ≤ l.q-end) × (l.q-end ≡ 64 * l.l) × Printed l.initial.out l.at (joined (letter_text l.l l.id l.w) l.q) l.out l.next

abbrev pub decreases-loop-q : goal.decreases-loop-q
decreases-loop-q l = l.q-end - l.q
