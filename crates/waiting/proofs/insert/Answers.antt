-- It is there, or those above it make room. Assumes nothing.
use Rattle.waiting.specs.Inserting.{insert_there, insert_new}
use Rattle.waiting.proofs.insert.Goals as goal

pub returns-then-is_last : goal.returns-then-is_last
returns-then-is_last c = insert_there c.requires c.up_to-at.ensures c.is_last.ensures c.if-is_last.true

pub returns : goal.returns
returns c =
    insert_new c.requires c.up_to-at.ensures c.move_up.ensures c.write.ensures c.is_last.ensures
    c.if-is_last.false
