-- The loop's invariant: what the qubits acted on and the marks below n reach is unchanged. Assumes nothing.
use mathlib.Core.Path.{◌≡◌}
use Prim.Native.Nat.{◌≤◌}
use lib.ListN.{length}
use Rattle.mentions.specs.Down.{MarkingDown}
use Rattle.mentions.proofs.mark_down.Given as goal

abbrev pub invariant-loop-n : goal.invariant-loop-n
invariant-loop-n l =
    (l.n ≤ l.count) × (length l.numbers ≡ length l.initial.numbers) × MarkingDown l.nodes l.u l.count l.n l.initial.numbers l.numbers
