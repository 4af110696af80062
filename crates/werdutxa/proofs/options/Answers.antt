-- The lazy setting and the strategy are worked out first. Assumes nothing.
use mathlib.Core.Path.{refl}
use Rattle.werdutxa.proofs.options.Goals as goal

pub returns : goal.returns
returns c = rw (c.lazy.ensures, c.strategy.ensures) refl
