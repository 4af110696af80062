-- The stores are as long as refusal 3 asks.
use Rattle.std.proofs.Common.{refl, arith}
use Rattle.index_main.specs.Ready.{small_counts, small_is, ready_none}
use Rattle.index_main.proofs.main.Goals as goal

pub shape_of-shape-requires : goal.shape_of-shape-requires
shape_of-shape-requires c = (small_counts, omega arith)

pub clear_chains-requires : goal.clear_chains-requires
clear_chains-requires c = omega (arith, (small_is c.shape_of-shape.ensures).u)

pub run-requires : goal.run-requires
run-requires c = ready_none c.shape_of-shape.ensures c.sizes_of.ensures refl refl c.clear_chains.ensures
