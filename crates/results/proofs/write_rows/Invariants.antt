-- The loop's invariant: the first i rows are laid. Assumes nothing.
use mathlib.Core.Path.{◌≡◌}
use Prim.Native.Nat.{◌*◌, ◌≤◌}
use Rattle.results.specs.Rows.{RowsLaid}
use Rattle.results.proofs.write_rows.Given as goal

abbrev pub invariant-loop-i : goal.invariant-loop-i
invariant-loop-i l = (l.i ≤ l.i-end) × (l.i-end ≡ 2 * l.shape.qubits) × RowsLaid l.changed l.shape l.numbers l.i l.initial.to l.to
