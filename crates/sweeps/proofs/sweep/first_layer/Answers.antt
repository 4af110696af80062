-- It is copied. Assumes nothing.
use Rattle.sweeps.specs.Sweeping.{first_copy, first_laid}
use Rattle.sweeps.proofs.sweep.first_layer.Goals as goal

pub copy_items-requires : goal.copy_items-requires
copy_items-requires c = first_copy _ _ c.args.merged c.requires c.begin_of-end.ensures

pub returns : goal.returns
returns c =
    let none = c.default.ensures in
    rw (none.0, none.1.0) (first_laid _ _ _ c.requires c.begin_of-end.ensures c.copy_items.ensures)
