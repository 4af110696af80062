-- The record says the node, and the number store whether it is relevant. Assumes nothing.
use mathlib.Core.Path.{sym, ◌∙◌}
use Rattle.roots.specs.LinkLaws.{row_root, row_none}
use Rattle.roots.proofs.link_row.Goals as goal

pub returns-then-read-eq0 : goal.returns-then-read-eq0
returns-then-read-eq0 c =
    let e = c.row_at-node.ensures in
    row_none (rw e at (sym c.read.ensures ∙ c.if-read-eq0.true)) c.no_root.ensures

pub returns : goal.returns
returns c =
    let e = c.row_at-node.ensures in
    row_root (λ z. c.if-read-eq0.false (c.read.ensures ∙ rw e z)) (rw e at c.link.ensures)
