-- There is none, or it is read. Assumes nothing.
use mathlib.Core.Path.{ap, ◌∙◌}
use mathlib.Core.Bool.{not}
use Rattle.std.proofs.Common.{eq-eqb}
use Rattle.waiting.specs.Inserting.{last_none, last_some}
use Rattle.waiting.proofs.is_last.Goals as goal

pub returns-then-n-ne0 : goal.returns-then-n-ne0
returns-then-n-ne0 c = last_some _ _ _ _ c.if-n-ne0.true c.read.ensures

pub returns-else-n-ne0 : goal.returns-else-n-ne0
returns-else-n-ne0 c = ap not (eq-eqb _ _ c.if-n-ne0.false) ∙ last_none _ _ _ _ c.if-n-ne0.false
