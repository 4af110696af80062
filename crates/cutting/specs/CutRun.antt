-- 02, M-113, about runs: with absorption off, the merge strategy and one round, a program cut directly after a measurement. That its runs add
-- up: proofs/CutRun.antt. Assumes nothing.
use Rattle.std.specs.Prelude.{◌≡◌, false, ◌+◌}
use mathlib.Core.List.{List, ◌++◌}
use Rattle.model.specs.declared.Absorption.TheVariants.{Off as off}
use Rattle.model.specs.declared.Strategy.TheVariants.{Merge}
use Rattle.model.specs.Program.{Operation, Program}
use Rattle.model.specs.Rules.{Rules}
use Rattle.model.specs.Packing.{packed}
use Rattle.model.specs.Run.{end_of}
use Rattle.model.specs.Results.{operation_results}
use Rattle.theory.specs.Checked.{Fine}
use Rattle.cutting.specs.Worded.{WordedOperation, worded_all}

-- "both keep nodes and rows": the program with these operations
abbrev pub with_operations : Program → List Operation → Program
with_operations p ops = record { qubits = p.qubits; nodes = p.nodes; operations = ops; rows = p.rows }

-- "With absorption off, merge strategy"; the one round is the number of rounds in `end_of r 1`
pub record MergesOnly (r : Rules) : Type 0 where
  pub absorption : r.absorption ≡ off
  pub strategy : r.strategy ≡ Merge

-- "If the whole and both parts are accepted": a program that Checking passes and whose roots are Hermitian
pub record Runs (p : Program) : Type 0 where
  pub fine : Fine p
  pub hermitian : (packed p).refused ≡ false

-- the operations that come out, with words
abbrev pub worded_end : Rules → Program → List WordedOperation
worded_end r p = worded_all (end_of r 1 p).store.axes (operation_results p (end_of r 1 p))

-- "the two results' operations written one behind the other must be the whole's in every field, words compared in place of ids"; "and the
-- parts' swaps add up to the whole's", as their merges do
pub record AddsUp (r : Rules) (whole earlier later : Program) : Type 0 where
  pub operations : worded_end r whole ≡ worded_end r earlier ++ worded_end r later
  pub swaps : (end_of r 1 whole).swaps ≡ (end_of r 1 earlier).swaps + (end_of r 1 later).swaps
  pub merges : (end_of r 1 whole).merges ≡ (end_of r 1 earlier).merges + (end_of r 1 later).merges
