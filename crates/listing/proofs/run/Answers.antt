-- Rewriting on what was read, and its text. Assumes nothing.
use mathlib.Core.Path.{refl, sym}
use Prim.Native.Nat.{◌*◌}
use lib.Seq.{length-take-le}
use Rattle.theory.specs.Called.{called_at}
use Rattle.listing.specs.Listed.{printing_asks, run_called, run_refused}
use native.Mathlib.Omega.{arith}
use Rattle.listing.proofs.run.Goals as goal

pub slice_bounds-rewriting-end : goal.slice_bounds-rewriting-end
slice_bounds-rewriting-end c =
    sym (length-take-le (c.args.counts.nodes * 5) c.args.nodes.now
    (omega (arith, c.requires.small.nodes, c.requires.read_room.nodes_room)))

pub slice_bounds-rewriting-end-2 : goal.slice_bounds-rewriting-end-2
slice_bounds-rewriting-end-2 c =
    sym (length-take-le (c.args.counts.operations * 6) c.args.operations.now
    (omega (arith, c.requires.small.operations, c.requires.read_room.operations_room)))

pub slice_bounds-rewriting-end-3 : goal.slice_bounds-rewriting-end-3
slice_bounds-rewriting-end-3 c =
    sym (length-take-le (2 * c.args.counts.qubits * 4) c.args.rows.now
    (omega (arith, c.requires.small.qubits, c.requires.read_room.rows_room)))

pub result-requires : goal.result-requires
result-requires c =
    let p = c.requires in
    printing_asks _ p.small _ _ _ (called_at c.defaults.ensures refl c.in-Ok.ensures) _ p.room

pub returns-in-Ok : goal.returns-in-Ok
returns-in-Ok c = run_called _ c.requires.small _ _ _ (called_at c.defaults.ensures refl c.in-Ok.ensures) c.result.ensures

pub returns-in-Err : goal.returns-in-Err
returns-in-Err c = run_refused _ _ _ _ (called_at c.defaults.ensures refl c.in-Err.ensures) c.refused.ensures
