-- It joins the open layer, or opens one. Assumes nothing.
use Rattle.layers.specs.Joining.{item_commutes, item_join, item_joins, item_close, item_join_next, item_opens}
use native.Mathlib.Omega.{arith}
use Rattle.layers.proofs.join_item.Goals as goal

pub item_at-x-requires : goal.item_at-x-requires
item_at-x-requires c = record { long = c.requires.stored.numbers_long; rows = omega arith; here = c.requires.here }

pub commutes_with_all-requires : goal.commutes_with_all-requires
commutes_with_all-requires c = item_commutes _ _ _ _ _ c.requires c.item_at-x.ensures

pub join-requires : goal.join-requires
join-requires c = item_join _ _ _ _ _ c.requires c.item_at-x.ensures

pub shape_of-numbers-then-commutes_with_all : goal.shape_of-numbers-then-commutes_with_all
shape_of-numbers-then-commutes_with_all c = c.join.ensures.only.long

pub returns-then-commutes_with_all : goal.returns-then-commutes_with_all
returns-then-commutes_with_all c =
    item_joins _ _ _ _ _ c.requires c.item_at-x.ensures c.commutes_with_all.ensures c.if-commutes_with_all.true
    c.join.ensures

pub close-s-requires : goal.close-s-requires
close-s-requires c = item_close _ _ _ _ _ c.requires c.item_at-x.ensures

pub join-requires-2 : goal.join-requires-2
join-requires-2 c = item_join_next _ _ _ _ _ c.requires c.item_at-x.ensures c.close-s.ensures

pub returns : goal.returns
returns c =
    item_opens _ _ _ _ _ c.requires c.item_at-x.ensures c.close-s.ensures c.commutes_with_all.ensures
    c.if-commutes_with_all.false c.join-2.ensures
