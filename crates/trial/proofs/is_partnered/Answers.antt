-- Both tests of the rotation. Assumes nothing.
use Rattle.std.proofs.Common.{◌∙◌}
use Rattle.trial.specs.Sharing.{partner_none, partner_axis}
use Rattle.trial.proofs.is_partnered.Goals as goal

pub returns-then-useful : goal.returns-then-useful
returns-then-useful c =
    partner_axis _ _ _ _ _ _ _ c.item_at-x.ensures c.useful.ensures c.if-useful.true c.has_axis.ensures

pub returns-else-useful : goal.returns-else-useful
returns-else-useful c = c.if-useful.false ∙ partner_none _ _ _ _ _ _ _ c.item_at-x.ensures c.useful.ensures c.if-useful.false
