-- Results, then zeros. Assumes nothing.
use Rattle.optimize.specs.Conclusion.{accept_finish, accept_done}
use Rattle.optimize.proofs.accept.Goals as goal

pub finish-requires : goal.finish-requires
finish-requires c = accept_finish c.args.options c.requires

pub returns : goal.returns
returns c = accept_done c.args.options c.requires c.finish.ensures
