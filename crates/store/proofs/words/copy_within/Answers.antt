-- The library's copy, in the store's words. Assumes nothing.
use Rattle.std.proofs.Common.{◌∙◌}
use Rattle.store.specs.Copy.{copied}
use Rattle.store.proofs.words.copy_within.Goals as goal

pub returns : goal.returns
returns c = c.copy_within.ensures.after ∙ copied _ _ _ _ c.requires.source
