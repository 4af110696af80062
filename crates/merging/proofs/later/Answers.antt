-- Even rotations wait, and the angle is even. Assumes nothing.
use mathlib.Core.Bool.{true, false}
use mathlib.Core.Path.{◌∙◌}
use Rattle.merging.specs.Steps.{test_and, is_later}
use Rattle.merging.proofs.later.Goals as goal

pub returns-then-is_lazy : goal.returns-then-is_lazy
unfolding is_later
returns-then-is_lazy c = test_and true c.args.k c.is_lazy.ensures c.if-is_lazy.true

pub returns-else-is_lazy : goal.returns-else-is_lazy
unfolding is_later
returns-else-is_lazy c = c.if-is_lazy.false ∙ test_and false c.args.k c.is_lazy.ensures c.if-is_lazy.false
