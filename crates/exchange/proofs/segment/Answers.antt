-- The segment, and the barrier behind it. Assumes nothing.
use mathlib.Core.Path.{◌∙◌}
use Rattle.exchange.specs.Segments.{part_pre, segment_pre, segment_last, barrier_copy, segment_next}
use Rattle.exchange.proofs.segment.Goals as goal

pub segment_end-end-requires : goal.segment_end-end-requires
segment_end-end-requires c = part_pre c.requires

pub swaps-done-requires : goal.swaps-done-requires
swaps-done-requires c = segment_pre c.requires c.segment_end-end.ensures

pub shape_of-numbers-then-end-count : goal.shape_of-numbers-then-end-count
shape_of-numbers-then-end-count c = c.swaps-done.ensures.only.long

pub returns-then-end-count : goal.returns-then-end-count
returns-then-end-count c = segment_last c.requires c.segment_end-end.ensures c.swaps-done.ensures c.if-end-count.true

pub copy_items-requires : goal.copy_items-requires
copy_items-requires c = barrier_copy c.requires c.segment_end-end.ensures c.swaps-done.ensures c.if-end-count.false

pub shape_of-numbers : goal.shape_of-numbers
shape_of-numbers c = c.copy_items.ensures.only.long ∙ c.swaps-done.ensures.only.long

pub returns : goal.returns
returns c =
    segment_next c.requires c.segment_end-end.ensures c.swaps-done.ensures c.if-end-count.false
    c.copy_items.ensures
