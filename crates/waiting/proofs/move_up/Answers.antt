-- One copy within the row. Assumes nothing.
use mathlib.Core.Path.{refl}
use Rattle.waiting.specs.Inserting.{moved_up}
use Rattle.waiting.proofs.move_up.Goals as goal

pub returns : goal.returns
returns c =
    let copied = c.copy_within.ensures.by_index in
    moved_up c.args.numbers.now _ c.requires.0 c.requires.1 c.requires.2 refl c.copy_within.ensures.len copied.0 copied.1 copied.2
