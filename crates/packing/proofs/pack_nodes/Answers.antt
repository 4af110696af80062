-- The loop is before node n's turn. Assumes nothing.
use mathlib.Core.Path.{◌≡◌}
use Rattle.std.proofs.lemmas.Result.{err_from_is_err_and}
use Rattle.packing.specs.Packing.{no_slots, first_node, next_node, prepared_rows_lem, granted_prepared, none_prepared}
use Rattle.packing.specs.Packing.{pack_axes, pack_refused}
use native.Mathlib.Omega.{arith}
use borrow.Author.Rules.{rules}
use Rattle.packing.proofs.pack_nodes.Goals as goal

pub loop-n-init : goal.loop-n-init
loop-n-init c =
    let written = prepared_rows_lem c.relevance.ensures.only c.prepare.ensures.only in
    let none : c.default-st.result ≡ no_slots = search rules in
    rw none (first_node (granted_prepared c.requires.0 written) (none_prepared c.requires.0 written c.requires.1)
    c.prepare.ensures.linked c.prepare.ensures.uses)

pub returns-in_err-st : goal.returns-in_err-st
returns-in_err-st c =
    let refused = err_from_is_err_and c.from_residual.result c.from_residual.ensures.1 in
    rw (refused.1, refused.2) (pack_refused c.requires.0 (prepared_rows_lem c.relevance.ensures.only c.prepare.ensures.only)
    c.loop-n.invariant (omega arith) c.pack_node.ensures.0 _ (rw c.in_err-st.was at c.pack_node.ensures.1))

pub loop-n-preserved : goal.loop-n-preserved
loop-n-preserved c =
    next_node c.loop-n.invariant (omega arith) c.pack_node.ensures.0 (rw c.in_ok-st.was at c.pack_node.ensures.1)

pub returns : goal.returns
returns c =
    pack_axes c.requires.0 (prepared_rows_lem c.relevance.ensures.only c.prepare.ensures.only) c.loop-n.invariant
    (omega (arith, c.loop-n.invariant.count))
