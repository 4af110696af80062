-- The loop's invariant: the items of the first i operations are there. Assumes nothing.
use Rattle.start.specs.Build.{built_none, build_reads, build_writes, built_more, built_all}
use native.Mathlib.Omega.{arith}
use Rattle.start.proofs.build_items.Goals as goal

pub loop-i-init : goal.loop-i-init
loop-i-init c = (omega arith, omega arith, built_none c.requires)

pub build_item-k-requires : goal.build_item-k-requires
build_item-k-requires c = (build_reads c.requires c.loop-i.invariant.2 (omega arith), build_writes c.requires c.loop-i.invariant.2 (omega arith))

pub loop-i-preserved : goal.loop-i-preserved
loop-i-preserved c = (omega arith, omega arith, built_more c.requires c.loop-i.invariant.2 (omega arith) c.build_item-k.ensures)

pub shape_of-numbers : goal.shape_of-numbers
shape_of-numbers c = c.loop-i.invariant.2.only.long

pub returns : goal.returns
returns c = built_all (omega arith) c.loop-i.invariant.2
