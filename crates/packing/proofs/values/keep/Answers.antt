-- The slot ends within the limit, so the word behind it is copied whole. Assumes nothing.
use Rattle.packing.specs.ValueLaws.{keep_apart, kept}
use Rattle.packing.proofs.values.keep.Goals as goal

pub copy_within-requires : goal.copy_within-requires
copy_within-requires c = keep_apart c.requires _ _ c.scratch_at-from.ensures c.slot_at-at.ensures

pub returns : goal.returns
returns c =
    let w = c.write.ensures in
    kept c.requires _ _ c.scratch_at-from.ensures c.slot_at-at.ensures c.copy_within.ensures w
    c.write-2.ensures
