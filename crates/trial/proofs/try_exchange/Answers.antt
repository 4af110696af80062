-- Where the groups may be exchanged, they are laid out, and the trial decides. Assumes nothing.
use Rattle.trial.specs.Laying.{exchange_order, exchange_not, order_improves, exchange_tried}
use Rattle.trial.proofs.try_exchange.Goals as goal

pub returns-then-not-commute_kept : goal.returns-then-not-commute_kept
returns-then-not-commute_kept c = exchange_not c.requires c.commute_kept.ensures _ c.if-not-commute_kept.true

pub improves-requires : goal.improves-requires
improves-requires c = order_improves (exchange_order c.requires c.commute_kept.ensures) c.lay.ensures

pub returns : goal.returns
returns c =
    exchange_tried c.requires c.commute_kept.ensures _ c.if-not-commute_kept.false c.lay.ensures
    c.improves.ensures
