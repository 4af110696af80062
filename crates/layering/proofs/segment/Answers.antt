-- Its rotations are layered and put out, and the barrier behind them. Assumes nothing.
use Rattle.layering.specs.Segments.{segment_items, segment_out, segment_last, segment_copy, segment_barrier}
use Rattle.layering.proofs.segment.Goals as goal

pub layer_items-s-requires : goal.layer_items-s-requires
layer_items-s-requires c = segment_items _ _ _ _ _ c.requires c.segment_end-end.ensures

pub put_out-requires : goal.put_out-requires
put_out-requires c = segment_out _ _ _ _ _ c.requires c.segment_end-end.ensures c.layer_items-s.ensures

pub returns-then-end-count : goal.returns-then-end-count
returns-then-end-count c =
    segment_last _ _ _ _ _ c.requires c.segment_end-end.ensures c.layer_items-s.ensures c.put_out.ensures
    c.if-end-count.true

pub copy_items-requires : goal.copy_items-requires
copy_items-requires c =
    segment_copy _ _ _ _ _ c.requires c.segment_end-end.ensures c.layer_items-s.ensures c.put_out.ensures
    c.if-end-count.false

pub shape_of-numbers : goal.shape_of-numbers
shape_of-numbers c = (segment_barrier _ _ _ _ _ c.requires c.segment_end-end.ensures c.layer_items-s.ensures
    c.put_out.ensures c.if-end-count.false c.copy_items.ensures).only.long

pub returns : goal.returns
returns c =
    segment_barrier _ _ _ _ _ c.requires c.segment_end-end.ensures c.layer_items-s.ensures
    c.put_out.ensures c.if-end-count.false c.copy_items.ensures
