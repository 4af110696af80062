-- An axis is the word at its place. Assumes nothing.
use mathlib.Core.Path.{sym, ap, ◌∙◌}
use Rattle.axes.specs.View.{word_at, axis_word}
use Rattle.axes.proofs.axis.Goals as goal

pub returns : goal.returns
returns c = λ n h. c.word_at.ensures ∙ ap (word_at _ _) c.axis_at.ensures ∙ sym (axis_word _ n _ _ h)
