-- The setting's exchange. Assumes nothing.
use mathlib.Core.Path.{refl}
use Rattle.trial.specs.Laying.{exchange_of}
use Rattle.trial.proofs.exchange_of.Goals as goal

pub returns-then-second : goal.returns-then-second
unfolding exchange_of
returns-then-second c = rw c.if-second.true refl

pub returns : goal.returns
unfolding exchange_of
returns c = rw c.if-second.false refl
