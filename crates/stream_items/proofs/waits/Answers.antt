-- By the tag, and the angle. Assumes nothing.
use mathlib.Core.Path.{◌∙◌}
use Rattle.std.proofs.Common.{ne_eqb}
use Rattle.stream_items.specs.Waiting.{waits_barrier, waits_none, waits_even}
use Rattle.stream_items.proofs.waits.Goals.{then-x-eq0, else-x-eq0}
use Rattle.stream_items.proofs.waits.Goals as goal

pub returns-then-x-ne0 : goal.returns-then-x-ne0
returns-then-x-ne0 c = waits_even c.args.x c.if-x-ne0.true.0 c.if-x-ne0.true.1

pub returns-else-x-ne0 : goal.returns-else-x-ne0
returns-else-x-ne0 c = elim c.if-x-eq0.branch [
  | then-x-eq0 w ↦ waits_none c.args.x w.t-3-is w.if-x-eq0.true c.if-x-ne0.either
  | else-x-eq0 w ↦
      w.t-3-is ∙ ne_eqb _ _ w.if-x-eq0.false ∙ waits_barrier c.args.x w.if-x-eq0.false
]
