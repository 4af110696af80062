-- The output is too short; the text cannot be read; or it is run. Assumes nothing.
use mathlib.Core.Path.{sym}
use Rattle.listing_call.specs.Reads.{read_small}
use Rattle.listing.specs.Listed.{no_room, run_listed, bad_listed}
use native.Mathlib.Omega.{arith}
use Rattle.listing.proofs.listing.Goals as goal

pub returns-then-output-lt-MOST_BYTES : goal.returns-then-output-lt-MOST_BYTES
returns-then-output-lt-MOST_BYTES c = record { replied = no_room _ _ _ (omega (arith, c.if-output-lt-MOST_BYTES.true)) }

pub returns-in_default : goal.returns-in_default
returns-in_default c = record {
  replied = bad_listed _ _ _ (omega arith) (sym c.in_default.ensures) c.refused.ensures;
}

pub run-requires : goal.run-requires
run-requires c =
    let r = c.read-t in
    record {
      small = read_small _ _ (sym c.in-Ok.ensures);
      read_room = record {
        nodes_room = omega (arith, r.auto.nodes);
        operations_room = omega (arith, r.auto.operations);
        rows_room = omega (arith, r.auto.rows);
      };
      room = omega arith;
    }

pub returns : goal.returns
returns c = record {
  replied = run_listed _ _ _ (omega (arith, c.if-output-lt-MOST_BYTES.false))
      (sym c.in-Ok.ensures) c.run.ensures;
}
