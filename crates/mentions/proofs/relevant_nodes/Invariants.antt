-- The loop's invariant: row RELEVANT tells of the first n nodes. Assumes nothing.
use mathlib.Core.Path.{◌≡◌}
use Prim.Native.Nat.{◌≤◌}
use lib.ListN.{length}
use Rattle.mentions.specs.Relevant.{RelevantNodes}
use Rattle.mentions.proofs.relevant_nodes.Given as goal

abbrev pub invariant-loop-n : goal.invariant-loop-n
invariant-loop-n l =
    (l.n ≤ l.count) × (length l.numbers ≡ length l.initial.numbers) × RelevantNodes l.nodes l.u l.count l.n l.initial.numbers l.numbers
