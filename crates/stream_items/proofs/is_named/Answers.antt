-- By the setting, then by the tag. Assumes nothing.
use mathlib.Core.Path.{ap, ◌∙◌}
use mathlib.Core.Bool.{not}
use Rattle.std.proofs.Common.{eq-eqb}
use Rattle.stream_items.specs.Behind.{named_rotation, named_unset, named_from}
use Rattle.stream_items.proofs.is_named.Goals as goal

pub returns-in-Off : goal.returns-in-Off
returns-in-Off c = named_unset _ c.in-Off.is

pub returns-then-x-ne0 : goal.returns-then-x-ne0
returns-then-x-ne0 c = named_from _ _ c.if-x-ne0.true c.in-From.is

pub returns-else-x-ne0 : goal.returns-else-x-ne0
returns-else-x-ne0 c = ap not (eq-eqb _ _ c.if-x-ne0.false) ∙ named_rotation _ _ c.if-x-ne0.false
