-- Off, or by the lazy setting. Assumes nothing.
use borrow.Author.Tests.{not-true, not-false}
use Rattle.points.specs.StreamPass.{absorption_off, absorption_by_lem}
use Rattle.std.proofs.Common.{⊎_elim}
use Rattle.points.proofs.absorption_of.Goals as goal

pub returns-then-not-options : goal.returns-then-not-options
returns-then-not-options c = absorption_off _ (not-true _ c.if-not-options.true)

pub returns-in-On : goal.returns-in-On
returns-in-On c = absorption_by_lem _ (not-false _ c.if-not-options.false) c.in-On.is

pub returns-in-Off : goal.returns-in-Off
returns-in-Off c =
    let on = not-false _ c.if-not-options.false in
    ⊎_elim (λ e. absorption_by_lem _ on e) (λ named. absorption_by_lem _ on named.1) c.in-Off.is
