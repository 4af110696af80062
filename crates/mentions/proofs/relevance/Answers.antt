-- The five calls in turn; what they leave together is shown in RelevanceLaws. Assumes nothing.
use mathlib.Core.Path.{◌∙◌}
use Rattle.mentions.specs.RelevanceLaws.{nodes_pre, operations_pre, both_long, relevance_is}
use Rattle.mentions.proofs.relevance.Goals as goal

pub mark_operations-requires : goal.mark_operations-requires
mark_operations-requires c =
    let h = c.requires in
    operations_pre h (both_long h c.clear_row.ensures c.clear_row-2.ensures)

pub mark_down-requires : goal.mark_down-requires
mark_down-requires c =
    let h = c.requires in
    nodes_pre h (c.mark_operations.ensures.only.long ∙ both_long h c.clear_row.ensures c.clear_row-2.ensures)

pub relevant_nodes-requires : goal.relevant_nodes-requires
relevant_nodes-requires c =
    let h = c.requires in
    nodes_pre h (c.mark_down.ensures.only.long ∙ c.mark_operations.ensures.only.long
    ∙ both_long h c.clear_row.ensures c.clear_row-2.ensures)

pub returns : goal.returns
returns c =
    relevance_is c.requires c.clear_row.ensures c.clear_row-2.ensures
    c.mark_operations.ensures c.mark_down.ensures c.relevant_nodes.ensures
