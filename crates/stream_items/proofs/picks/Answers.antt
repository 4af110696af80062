-- All are, or those that anticommute. Assumes nothing.
use Rattle.stream_items.specs.Waiting.{picks_all, picks_some}
use Rattle.stream_items.proofs.picks.Goals as goal

pub returns-in-None : goal.returns-in-None
returns-in-None c = picks_all c.args.axes.sizes c.args.b c.args.axes.words.now c.in-None.is

pub anticommute-requires : goal.anticommute-requires
anticommute-requires c = (c.requires.there, c.requires.axis _ c.in-Some.is)

pub returns-in-Some : goal.returns-in-Some
returns-in-Some c = picks_some c.args.axes.sizes c.args.b c.args.axes.words.now c.in-Some.is c.anticommute.ensures
