-- The rounds, and one more stream. Assumes nothing.
use Rattle.points.specs.Points.{long_then}
use Rattle.merge_rounds.specs.Closing.{merging_limit, merging_some, merging_end}
use Rattle.steps.specs.State.{is_limit}
use Rattle.merge_rounds.proofs.merge_rounds.Goals as goal

pub shape_of-words-in_err-run : goal.shape_of-words-in_err-run
shape_of-words-in_err-run c = c.rounds_from.ensures.0.words

pub shape_of-numbers-in_err-run : goal.shape_of-numbers-in_err-run
shape_of-numbers-in_err-run c = c.rounds_from.ensures.0.numbers

pub returns-in_err-run : goal.returns-in_err-run
returns-in_err-run c = rw (is_limit _ c.from_residual.ensures.0) (
  c.rounds_from.ensures.0,
  λ p w h. merging_limit c.args.options w (c.rounds_from.ensures.1 p w h)
      c.in_err-run.was,
)

pub closing_stream-requires : goal.closing_stream-requires
closing_stream-requires c = (merging_some c.args.options _ (c.rounds_from.ensures.1 _ _ c.requires.0.at) _ c.in_ok-run.was, c.requires.1)

pub shape_of-words : goal.shape_of-words
shape_of-words c = (long_then c.rounds_from.ensures.0 c.closing_stream.ensures.0).words

pub shape_of-numbers : goal.shape_of-numbers
shape_of-numbers c = (long_then c.rounds_from.ensures.0 c.closing_stream.ensures.0).numbers

pub returns : goal.returns
returns c = (
  long_then c.rounds_from.ensures.0 c.closing_stream.ensures.0,
  λ p w h. merging_end
      c.args.options w
      (c.closing_stream.ensures.1 510 p _ ((c.rounds_from.ensures.1 p w h).done _ c.in_ok-run.was)),
)
