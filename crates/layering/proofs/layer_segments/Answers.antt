-- The rest of the pass, from the state that memory holds, is the whole pass. Assumes nothing.
use Rattle.layering.specs.Segments.{pass_start, pass_need, pass_turn, pass_copy, pass_end}
use Rattle.layering.proofs.layer_segments.Goals as goal

pub loop-st-init : goal.loop-st-init
loop-st-init c = pass_start _ _ _ _

pub segment-st-requires : goal.segment-st-requires
segment-st-requires c = pass_need _ _ _ _ c.requires c.loop-st.invariant c.loop-st-test.true

pub loop-st-preserved : goal.loop-st-preserved
loop-st-preserved c = pass_turn _ _ _ _ c.requires c.loop-st.invariant c.segment-st.ensures

pub copy_items-requires : goal.copy_items-requires
copy_items-requires c = pass_copy _ _ _ _ c.requires c.loop-st.invariant

pub shape_of-numbers : goal.shape_of-numbers
shape_of-numbers c = (pass_end _ _ _ _ c.requires c.loop-st.invariant c.loop-st-test.false c.copy_items.ensures).only.long

pub returns : goal.returns
returns c = pass_end _ _ _ _ c.requires c.loop-st.invariant c.loop-st-test.false c.copy_items.ensures
