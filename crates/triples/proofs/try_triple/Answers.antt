-- Nothing is kept to begin with, and then all starts are tried. Assumes nothing.
use mathlib.Core.Path.{◌∙◌}
use Rattle.trial.specs.Plain.{kept_only}
use Rattle.triples.specs.Pairs.{runs_kept, search_from}
use Rattle.triples.specs.Forgotten.{runs_forget, forgotten_right}
use Rattle.triples.proofs.try_triple.Goals as goal

pub forget-requires : goal.forget-requires
forget-requires c = runs_forget c.requires.0

pub try_starts-requires : goal.try_starts-requires
try_starts-requires c = (
  runs_kept c.requires.0 (kept_only c.forget.ensures.only),
  c.requires.1,
  forgotten_right c.requires.0
      c.forget.ensures,
)

pub shape_of-numbers : goal.shape_of-numbers
shape_of-numbers c = c.try_starts.ensures.only.long ∙ c.forget.ensures.only.long

pub returns : goal.returns
returns c = search_from _ _ _ _ _ (kept_only c.forget.ensures.only) c.try_starts.ensures
