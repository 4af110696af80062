-- The frame rows from r on are linked. Assumes nothing.
use Rattle.roots.specs.Linking.{RowsAt}
use Rattle.roots.proofs.link_rows.Given as goal

abbrev pub invariant-loop-r : goal.invariant-loop-r
invariant-loop-r l = RowsAt l.shape l.rows l.initial.numbers l.r l.numbers
