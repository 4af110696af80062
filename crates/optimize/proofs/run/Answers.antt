-- The decision, then the conclusion. Assumes nothing.
use Rattle.optimize.specs.Conclusion.{run_conclude, run_done}
use Rattle.optimize.proofs.run.Goals as goal

pub decide-d-requires : goal.decide-d-requires
decide-d-requires c = (c.requires.pack, c.requires.options)

pub conclude-requires : goal.conclude-requires
conclude-requires c = run_conclude c.requires c.decide-d.ensures

pub returns : goal.returns
returns c = run_done c.requires c.decide-d.ensures _ c.conclude.ensures
