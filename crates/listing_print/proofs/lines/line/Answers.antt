-- The columns, then a newline. Assumes nothing.
use Rattle.listing_print.specs.Printed.{printed_then, printed_as, printed_byte, printed_long}
use Rattle.listing_print.specs.Texts.{line_columns, line_room}
use native.Mathlib.Omega.{arith}
use Rattle.listing_print.proofs.lines.line.Goals as goal

pub fields-e-requires : goal.fields-e-requires
fields-e-requires c = omega (arith, line_room c.args.ns.now _ c.requires)

pub bounds-out-e : goal.bounds-out-e
bounds-out-e c =
    let f = c.fields-e.ensures in
    omega (arith, f.place, printed_long f, line_room c.args.ns.now _ c.requires)

pub returns : goal.returns
returns c =
    let f = c.fields-e.ensures in
    printed_as (line_columns _)
    (printed_then f (printed_byte _ _ 10 (omega (arith, f.place, printed_long f, line_room c.args.ns.now _ c.requires))))
