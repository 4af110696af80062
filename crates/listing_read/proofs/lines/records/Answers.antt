-- The loop's invariant: the first i records stand in `to`, and with what is left of the text they give the whole. Assumes nothing.
use mathlib.Core.Path.{refl, ◌∙◌}
use Prim.Native.Nat.{◌≤◌, ◌-◌, ◌*◌, ◌+◌}
use borrow.Rule.Slice.PartMut.{same_len_mid}
use lib.ListN.{length}
use Rattle.store.specs.Chunk.{chunk_in}
use native.Mathlib.Omega.{arith}
use Rattle.listing_read.specs.RecordLoop.{records_first, records_bad, records_more, records_end, part_size, record_lent, refused}
use Rattle.listing_read.proofs.lines.records.Goals as goal

pub loop-i-init : goal.loop-i-init
loop-i-init c = (refl, records_first _ _ _ _ _)

pub returns-in_err-rest : goal.returns-in_err-rest
returns-in_err-rest c =
    let inside = chunk_in c.args.n c.args.count c.loop-i.i c.loop-i-test.true in
    refused _ _ c.from_residual.ensures.0 (records_bad _ _ _ _ _ _ _ c.loop-i-test.true c.loop-i.invariant.1
    (record_lent _ _ _ _ c.in_err-rest.ensures (part_size c.loop-i.to _ _ (omega (arith, inside)))))

pub loop-i-preserved : goal.loop-i-preserved
loop-i-preserved c =
    let a = c.loop-i.i * c.args.n in
    let inside = chunk_in c.args.n c.args.count c.loop-i.i c.loop-i-test.true in
    let fits : a + c.args.n ≤ length c.loop-i.to = omega (arith, inside) in
    let long = part_size c.loop-i.to _ _ fits in (
      same_len_mid a (a + c.args.n - a) c.loop-i.to c.record.new.r c.record.auto.r ∙ c.loop-i.invariant.0,
      records_more _ _ _ _ _ _ _ _ _ c.loop-i-test.true fits (c.record.auto.r ∙ long) c.loop-i.invariant.1
          (record_lent _ _ _ _ c.in_ok-rest.ensures long),
    )

pub returns : goal.returns
returns c = records_end _ _ _ _ _ _ _ (omega arith) c.loop-i.invariant.1
