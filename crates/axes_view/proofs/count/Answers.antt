-- The quotient is the definition's. Assumes nothing.
use mathlib.Core.Path.{refl}
use Rattle.axes.specs.View.{axes_in}
use Rattle.axes_view.proofs.count.Goals as goal

pub returns : goal.returns
unfolding axes_in
returns c = refl
