-- The rest, joined to the layers that memory holds, gives the layers of all. Assumes nothing.
use Rattle.layers.specs.View.{zero_laid}
use Rattle.layers.specs.Joining.{joined_start, joined_need, joined_turn, joined_end}
use Rattle.layers.proofs.join_items.Goals as goal

pub loop-i-init : goal.loop-i-init
loop-i-init c =
    let none = c.default-st.ensures in
    rw (zero_laid _ none.0 none.1.0 none.1.1.0 none.1.1.1) (joined_start _ _ _ _ _ c.requires)

pub join_item-st-requires : goal.join_item-st-requires
join_item-st-requires c = joined_need _ _ _ _ _ c.requires c.loop-i-test.true c.loop-i.invariant

pub loop-i-preserved : goal.loop-i-preserved
loop-i-preserved c = joined_turn _ _ _ _ _ c.requires c.loop-i-test.true c.loop-i.invariant c.join_item-st.ensures

pub returns : goal.returns
returns c = joined_end _ _ _ _ _ c.loop-i-test.false c.loop-i.invariant
