-- The number of words that fit; a slice that ends with n axes has n. Assumes nothing.
use mathlib.Core.Path.{◌∙◌}
use Rattle.axes.specs.View.{axes_in_lem}
use Rattle.axes_view.proofs.Axes.len.Goals as goal

pub returns : goal.returns
returns c = (c.count.ensures, λ n e. c.count.ensures ∙ axes_in_lem c.args.self.l n c.args.self.words.now c.requires.0 e)
