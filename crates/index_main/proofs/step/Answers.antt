-- A word laid behind the limit is no axis.
use Rattle.index_main.specs.Ready.{ready_laid}
use Rattle.index_main.proofs.step.Goals as goal

pub store-requires : goal.store-requires
store-requires g c = ready_laid c.requires c.lay.ensures
