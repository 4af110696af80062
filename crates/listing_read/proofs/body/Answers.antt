-- Nodes, operations, rows, and nothing behind them. Assumes nothing.
use Rattle.std.proofs.Common.{◌∙◌, ◌*◌, take, arith, ltb-false}
use Rattle.listing_read.specs.Records.{records_of}
use Rattle.listing_read.specs.Body.{then_read, not_read, all_read, left_over, refused}
use Rattle.listing_read.specs.Views.{fields_of}
use Rattle.listing_read.proofs.body.Goals as goal

pub returns-in_err-behind_nodes : goal.returns-in_err-behind_nodes
unfolding records_of
returns-in_err-behind_nodes c = refused _ _ _ _ c.from_residual.ensures.0 (not_read _ c.in_err-behind_nodes.ensures)

pub returns-in_err-behind_operations : goal.returns-in_err-behind_operations
unfolding records_of
returns-in_err-behind_operations c =
    refused _ _ _ _ c.from_residual-in_err-behind_operations.ensures.0
    (not_read _ c.in_err-behind_operations.ensures ∙ then_read _ c.in_ok-behind_nodes.ensures)

pub returns-in_err-end : goal.returns-in_err-end
unfolding records_of
returns-in_err-end c =
    refused _ _ _ _ c.from_residual-in_err-end.ensures.0
    (not_read _ c.in_err-end.ensures ∙ then_read _ c.in_ok-behind_operations.ensures ∙ then_read _ c.in_ok-behind_nodes.ensures)

pub returns-in-empty : goal.returns-in-empty
unfolding records_of
returns-in-empty c =
    let said = c.args.said in
    let ns = take (said.counts.nodes * 5) c.records.new.to in
    let os = take (said.counts.operations * 6) c.records-2.new.to in
    let rs = take (2 * said.counts.qubits * 4) c.records-3.new.to in
    all_read (fields_of said.counts said.limit) ns os rs _ (omega arith)
    ∙ then_read _ c.in_ok-end.ensures ∙ then_read _ c.in_ok-behind_operations.ensures ∙ then_read _ c.in_ok-behind_nodes.ensures

pub returns-in_default : goal.returns-in_default
unfolding records_of
returns-in_default c =
    let said = c.args.said in
    let ns = take (said.counts.nodes * 5) c.records.new.to in
    let os = take (said.counts.operations * 6) c.records-2.new.to in
    let rs = take (2 * said.counts.qubits * 4) c.records-3.new.to in
    left_over (fields_of said.counts said.limit) ns os rs _ (grind (arith, ltb-false))
    ∙ then_read _ c.in_ok-end.ensures ∙ then_read _ c.in_ok-behind_operations.ensures ∙ then_read _ c.in_ok-behind_nodes.ensures
