-- A line of four fields, none of them too large. Assumes nothing.
use native.Mathlib.Omega.{arith}
use Rattle.listing_fields.specs.Fields.{none_bound}
use Rattle.listing_read.specs.Header.{four, same_taken, not_too_large, header_allowed, header_refused, not_headed}
use Rattle.listing_read.specs.LineEnd.{no_line, line_read}
use Rattle.listing_read.specs.Records.{allowed}
use Rattle.listing_read.proofs.header.Goals as goal

pub returns-in_err-line : goal.returns-in_err-line
returns-in_err-line c = not_headed _ c.from_residual.ensures.0 (no_line _ _ _ c.in_err-line.ensures)

pub returns-in_err-fields : goal.returns-in_err-fields
returns-in_err-fields c =
    not_headed _ c.from_residual-in_err-fields.ensures.0
    (line_read _ _ _ _ _ _ c.in_ok-line.ensures (none_bound allowed c.in_err-fields.ensures))

pub returns-then-too_large : goal.returns-then-too_large
returns-then-too_large c =
    record {
      read = line_read _ _ _ _ _ _ c.in_ok-line.ensures (header_refused c.fields.new.to _ c.in_ok-fields.ensures c.too_large.ensures c.if-too_large.true);
      small = tt;
    }

pub returns : goal.returns
returns c =
    let h = c.fields.new.to in
    let allowed = c.if-too_large.false in
    let small = not_too_large h c.too_large.ensures allowed in
    let qubits = c.wide.ensures in
    let nodes = c.wide-2.ensures in
    let operations = c.wide-3.ensures in
    record {
      read = same_taken (four h c.fields.auto.to qubits nodes operations c.wide-limit.ensures)
          (line_read _ _ _ _ _ _ c.in_ok-line.ensures (header_allowed h _ c.in_ok-fields.ensures c.too_large.ensures allowed));
      small = (
        omega (arith, small.qubits, qubits),
        omega (arith, small.nodes, nodes),
        omega (arith, small.operations, operations),
      );
    }
