-- By the strategy. Assumes nothing.
use Rattle.rounds.specs.ByStrategy.{passes_merge, passes_litinski}
use Rattle.rounds.proofs.passes.Goals as goal

pub shape_of-words-in-Merge : goal.shape_of-words-in-Merge
shape_of-words-in-Merge c = c.merge_rounds.ensures.0.words

pub shape_of-numbers-in-Merge : goal.shape_of-numbers-in-Merge
shape_of-numbers-in-Merge c = c.merge_rounds.ensures.0.numbers

pub returns-in-Merge : goal.returns-in-Merge
returns-in-Merge c = (
  c.merge_rounds.ensures.0,
  λ p w h. passes_merge c.args.options w c.in-Merge.is
      (c.merge_rounds.ensures.1 p w h),
)

pub shape_of-words-in-Litinski : goal.shape_of-words-in-Litinski
shape_of-words-in-Litinski c = c.litinski_rounds.ensures.0.words

pub shape_of-numbers-in-Litinski : goal.shape_of-numbers-in-Litinski
shape_of-numbers-in-Litinski c = c.litinski_rounds.ensures.0.numbers

pub returns-in-Litinski : goal.returns-in-Litinski
returns-in-Litinski c = (
  c.litinski_rounds.ensures.0,
  λ p w h. passes_litinski c.args.options w c.in-Litinski.is
      (c.litinski_rounds.ensures.1 p w h),
)
