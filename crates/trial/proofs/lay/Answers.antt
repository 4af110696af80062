-- Three copies. Assumes nothing.
use Rattle.trial.specs.Laying.{three_laid}
use Rattle.trial.proofs.lay.Goals as goal

pub returns : goal.returns
returns c =
    three_laid c.requires (rw c.len-n.ensures at c.copy_items.ensures) (rw (c.len-n.ensures, c.len-m.ensures) at c.copy_items-2.ensures)
    (rw (c.len-n.ensures, c.len-m.ensures, c.len.ensures) at c.copy_items-3.ensures)
