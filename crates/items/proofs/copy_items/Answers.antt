-- The loop's invariant: i entries are copied. Assumes nothing.
use native.Mathlib.Omega.{arith}
use Rattle.items.specs.Copy.{copy_none, copy_reads, copy_writes, copy_more, copy_all}
use Rattle.items.proofs.copy_items.Goals as goal

pub loop-i-init : goal.loop-i-init
loop-i-init c = (omega arith, copy_none c.requires)

pub copy_item-requires : goal.copy_item-requires
copy_item-requires c =
    let p = c.requires in
    (copy_reads p c.loop-i.invariant.1 (omega arith), copy_writes p c.loop-i.invariant.1 (omega arith))

pub loop-i-preserved : goal.loop-i-preserved
loop-i-preserved c = (omega arith, copy_more c.requires c.loop-i.invariant.1 (omega arith) c.copy_item.ensures)

pub returns : goal.returns
returns c = copy_all c.requires (omega arith) c.loop-i.invariant.1
