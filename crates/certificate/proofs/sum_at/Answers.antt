-- The loop's invariant: the sum of the rows of the items before p. Assumes nothing.
use native.Mathlib.Omega.{arith}
use Rattle.certificate.proofs.SignedSum.{add_fits, add_read}
use Rattle.certificate.specs.Turns.{sum_most, sum_start, sum_step, row_within, sum_within}
use Rattle.certificate.proofs.sum_at.Goals as goal

pub loop-p-init : goal.loop-p-init
loop-p-init c = (omega arith, (let h = c.requires.groups.first.order in omega arith), sum_start _ _ _ _ _ _ _)

pub overflow_add-sum : goal.overflow_add-sum
overflow_add-sum c =
    let i = c.loop-p.invariant in
    let h = c.requires in
    add_fits sum_most (omega arith) c.loop-p.sum-bits i.2 c.row_share-sum.ensures (row_within c.args.axes.stored h _)
    (sum_step _ _ _ _ _ _ _ _ _ _ i.0 c.item_at-x.ensures c.row_share-sum.ensures)
    (sum_within c.args.axes.stored h c.loop-p-test.true)

pub loop-p-preserved : goal.loop-p-preserved
loop-p-preserved c =
    let i = c.loop-p.invariant in
    let h = c.requires in (
      omega arith,
      omega arith,
      add_read sum_most (omega arith) c.loop-p.sum-bits i.2 c.row_share-sum.ensures (row_within c.args.axes.stored h _)
          (sum_step _ _ _ _ _ _ _ _ _ _ i.0 c.item_at-x.ensures c.row_share-sum.ensures)
          (sum_within c.args.axes.stored h c.loop-p-test.true),
    )
