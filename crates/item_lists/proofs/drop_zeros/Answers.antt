-- The loop's invariant: of i items those that stay are there. Assumes nothing.
use native.Mathlib.Omega.{arith}
use mathlib.Core.Path.{refl}
use Rattle.item_lists.specs.Drop.{dropped_none, dropped_reads, dropped_writes, dropped_more, dropped_all}
use Rattle.item_lists.proofs.drop_zeros.Goals as goal

pub loop-i-init : goal.loop-i-init
loop-i-init c = (omega arith, dropped_none c.requires)

pub keep_at-k-requires : goal.keep_at-k-requires
keep_at-k-requires c =
    let p = c.requires in
    (dropped_reads p c.loop-i.invariant.1 (omega arith), dropped_writes p c.loop-i.invariant.1 (omega arith))

pub loop-i-preserved : goal.loop-i-preserved
loop-i-preserved c = (omega arith, dropped_more c.requires c.loop-i.invariant.1 (omega arith) refl c.keep_at-k.ensures)

pub returns : goal.returns
returns c = dropped_all c.requires (omega arith) c.loop-i.invariant.1
