-- Two cases: the node is still used, or its slot is free. Assumes nothing.
use Rattle.packing.specs.ValueLaws.{released_still, released_last}
use Rattle.packing.proofs.values.release.Goals as goal

pub returns-then-left-ne0 : goal.returns-then-left-ne0
returns-then-left-ne0 c = released_still _ c.requires c.read-left.ensures c.write.ensures c.if-left-ne0.true

pub returns : goal.returns
returns c =
    let p = c.requires in
    let last = c.if-left-ne0.false in
    released_last _ p c.read-left.ensures c.write.ensures _ c.read-s.ensures c.write-2.ensures last
