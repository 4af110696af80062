-- The loop's invariant: the rest of the pass from the state that memory holds now. Assumes nothing.
use mathlib.Core.Path.{◌∙◌}
use native.Mathlib.Omega.{arith}
use Rattle.exchange.specs.Segments.{exchange_none, pass_begin, pass_pre, pass_next, pass_copy, pass_end}
use Rattle.exchange.proofs.swap_segments.Goals as goal

pub returns-then-rules-eq0 : goal.returns-then-rules-eq0
returns-then-rules-eq0 c = exchange_none c.requires c.if-rules-eq0.true

pub loop-st-init : goal.loop-st-init
loop-st-init c = (omega arith, pass_begin c.requires)

pub segment-st-requires : goal.segment-st-requires
segment-st-requires c = pass_pre c.requires c.if-rules-eq0.false c.loop-st.invariant.1 c.loop-st-test.true

pub loop-st-smaller : goal.loop-st-smaller
loop-st-smaller c = let a = c.segment-st.ensures.later in let b = c.segment-st.ensures.within in omega arith

pub loop-st-preserved : goal.loop-st-preserved
loop-st-preserved c = (
  c.segment-st.ensures.only.long ∙ c.loop-st.invariant.0,
  pass_next c.requires c.if-rules-eq0.false c.loop-st.invariant.1 c.segment-st.ensures,
)

pub copy_items-requires : goal.copy_items-requires
copy_items-requires c = pass_copy c.requires c.if-rules-eq0.false c.loop-st.invariant.1

pub shape_of-numbers : goal.shape_of-numbers
shape_of-numbers c = c.copy_items.ensures.only.long ∙ c.loop-st.invariant.0

pub returns : goal.returns
returns c = pass_end c.requires c.if-rules-eq0.false c.loop-st.invariant.1 c.loop-st-test.false c.copy_items.ensures
