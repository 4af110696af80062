-- Words from a place on, and all numbers. Assumes nothing.
use mathlib.Core.Path.{refl}
use Rattle.model.specs.Rewriting.{zeros}
use Rattle.results.specs.Zeros.{zeroed_lent}
use Rattle.results.proofs.clean.Goals as goal

pub returns : goal.returns
unfolding zeros
returns c = (zeroed_lent _ _ _ _ refl c.requires (c.fill.ensures.after (λ y h. h)), c.fill-2.ensures.after (λ y h. h))
