-- The loop's invariant: the sum of the pairs with the items before q. Assumes nothing.
use native.Mathlib.Omega.{arith}
use Rattle.certificate.proofs.SignedSum.{add_fits, add_read}
use Rattle.certificate.specs.Turns.{row_start, row_step, row_bound, row_most, pair_bound, row_term, room}
use Rattle.certificate.proofs.row_sum.Goals as goal

pub loop-q-init : goal.loop-q-init
loop-q-init c = (omega arith, (let h = c.requires.second.order in omega arith), row_start _ _ _ _ _ _ _)

pub term-sum-requires : goal.term-sum-requires
term-sum-requires c = row_term c.args.axes.stored c.requires _ c.loop-q.invariant.0 c.loop-q-test.true _ c.item_at-y.ensures

pub overflow_add-sum : goal.overflow_add-sum
overflow_add-sum c =
    let i = c.loop-q.invariant in
    let y = c.item_at-y in
    let h = c.requires in
    add_fits row_most (omega arith) c.loop-q.sum-bits i.2 c.term-sum.ensures (pair_bound _ _ _ _ _)
    (row_step _ _ _ _ _ _ _ _ _ _ i.0 y.ensures c.term-sum.ensures)
    (row_bound _ _ _ _ _ _ _ _ (room c.args.axes.stored h c.loop-q-test.true))

pub loop-q-preserved : goal.loop-q-preserved
loop-q-preserved c =
    let i = c.loop-q.invariant in
    let y = c.item_at-y in
    let h = c.requires in (
      omega arith,
      omega arith,
      add_read row_most (omega arith) c.loop-q.sum-bits i.2 c.term-sum.ensures (pair_bound _ _ _ _ _)
          (row_step _ _ _ _ _ _ _ _ _ _ i.0 y.ensures c.term-sum.ensures)
          (row_bound _ _ _ _ _ _ _ _ (room c.args.axes.stored h c.loop-q-test.true)),
    )
