-- The identity, a letter, a product: what is read in each case. Assumes nothing.
use Rattle.std.proofs.Common.{refl}
use Rattle.mentions.specs.Relevant.{relevant_is, relevant_node, relevant_first, relevant_second}
use Rattle.mentions.proofs.relevant.Goals as goal

pub returns-in-Identity : goal.returns-in-Identity
unfolding relevant_node
returns-in-Identity c = relevant_is _ _ _ _ c.in-Identity.ensures refl

pub returns-in-Letter : goal.returns-in-Letter
unfolding relevant_node
returns-in-Letter c = relevant_is _ _ _ _ c.in-Letter.ensures c.is_set.ensures

pub returns-then-is_set : goal.returns-then-is_set
returns-then-is_set c =
    relevant_is _ _ _ _ c.in-Product.ensures (relevant_first _ _ _ _ _ _ c.is_set-in-Product.ensures c.if-is_set.true)

pub returns-else-is_set : goal.returns-else-is_set
returns-else-is_set c =
    relevant_is _ _ _ _ c.in-Product.ensures
    (relevant_second _ _ _ _ _ _ c.is_set-in-Product.ensures c.if-is_set.false c.is_set-else-is_set.ensures)
