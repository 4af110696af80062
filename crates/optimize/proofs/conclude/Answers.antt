-- By the decision. Assumes nothing.
use mathlib.Core.Path.{◌∙◌}
use Rattle.results.specs.Zeros.{zeroed_whole}
use Rattle.optimize.specs.Conclusion.{conclude_accept, conclude_stop}
use Rattle.optimize.proofs.conclude.Goals as goal

pub accept-requires : goal.accept-requires
accept-requires c = conclude_accept c.args.options c.requires _ c.in-Ok.is

pub returns-in-Ok : goal.returns-in-Ok
returns-in-Ok c = c.accept.ensures

pub returns-in-Err : goal.returns-in-Err
returns-in-Err c =
    conclude_stop c.args.options c.requires c.in-Err.is c.into.ensures (c.clean.ensures.0 ∙ zeroed_whole _) c.clean.ensures.1
