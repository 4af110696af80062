-- The exchange that is tried first, or the other. Assumes nothing.
use Rattle.std.proofs.Common.{sym, ◌∙◌}
use Rattle.trial.specs.Laying.{exchange_pre}
use Rattle.trial.proofs.Pairs.{pair_kept, pair_none, pair_one, pair_other}
use Rattle.trial.proofs.try_pair.Goals as goal

pub returns-then-not-shares_axis : goal.returns-then-not-shares_axis
returns-then-not-shares_axis c = pair_none c.requires _ c.shares_axis.ensures c.if-not-shares_axis.true

pub try_exchange-tried-requires : goal.try_exchange-tried-requires
try_exchange-tried-requires c = rw c.exchange_of-one.ensures (exchange_pre c.requires _)

pub try_exchange-requires : goal.try_exchange-requires
try_exchange-requires c =
    rw c.exchange_of-other.ensures
    (exchange_pre (pair_kept c.requires _ (rw c.exchange_of-one.ensures at c.try_exchange-tried.ensures)) _)

pub returns-then-is_some : goal.returns-then-is_some
returns-then-is_some c =
    pair_one c.requires _ c.shares_axis.ensures c.if-not-shares_axis.false
    (rw c.exchange_of-one.ensures at c.try_exchange-tried.ensures) (sym c.is_some.ensures ∙ c.if-is_some.true)

pub returns : goal.returns
returns c =
    pair_other c.requires _ c.shares_axis.ensures c.if-not-shares_axis.false
    (rw c.exchange_of-one.ensures at c.try_exchange-tried.ensures) (sym c.is_some.ensures ∙ c.if-is_some.false)
    (rw c.exchange_of-other.ensures at c.try_exchange.ensures)
