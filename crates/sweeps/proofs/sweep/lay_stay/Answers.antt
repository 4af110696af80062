-- The open layer is closed, and what stayed is laid behind it. Assumes nothing.
use Rattle.sweeps.specs.Moves.{lay_close, lay_copy, lay_laid}
use Rattle.sweeps.proofs.sweep.lay_stay.Goals as goal

pub close-closed-requires : goal.close-closed-requires
close-closed-requires c = lay_close _ _ _ c.requires

pub copy_items-requires : goal.copy_items-requires
copy_items-requires c = lay_copy _ _ _ c.requires c.close-closed.ensures

pub returns : goal.returns
returns c = lay_laid _ _ _ c.requires c.close-closed.ensures c.copy_items.ensures
