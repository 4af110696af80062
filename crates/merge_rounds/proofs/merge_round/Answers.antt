-- A stream, then exchanges. Assumes nothing.
use Rattle.points.specs.Points.{some_later, long_then}
use Rattle.merge_rounds.specs.OneRound.{merged_limit, merged_some, merged_done}
use native.Mathlib.Omega.{arith}
use Rattle.steps.specs.State.{is_limit}
use Rattle.merge_rounds.proofs.merge_round.Goals as goal

pub stream_pass-requires : goal.stream_pass-requires
stream_pass-requires c = (some_later (omega arith) c.requires.0, c.requires.1)

pub shape_of-words-in_err-s : goal.shape_of-words-in_err-s
shape_of-words-in_err-s c = c.stream_pass.ensures.0.words

pub shape_of-numbers-in_err-s : goal.shape_of-numbers-in_err-s
shape_of-numbers-in_err-s c = c.stream_pass.ensures.0.numbers

pub returns-in_err-s : goal.returns-in_err-s
returns-in_err-s c = rw (is_limit _ c.from_residual.ensures.0) (
  c.stream_pass.ensures.0,
  λ i p w h. merged_limit c.args.options i w (c.stream_pass.ensures.1 i p w h)
      c.in_err-s.was,
)

pub exchange_pass-requires : goal.exchange_pass-requires
exchange_pass-requires c = (
  merged_some c.args.options 510 _ (c.stream_pass.ensures.1 510 _ _ c.requires.0.at) _ c.in_ok-s.was
      (omega arith),
  c.requires.1,
)

pub shape_of-words : goal.shape_of-words
shape_of-words c = (long_then c.stream_pass.ensures.0 c.exchange_pass.ensures.0).words

pub shape_of-numbers : goal.shape_of-numbers
shape_of-numbers c = (long_then c.stream_pass.ensures.0 c.exchange_pass.ensures.0).numbers

pub returns : goal.returns
returns c = (
  long_then c.stream_pass.ensures.0 c.exchange_pass.ensures.0,
  λ i p w h. merged_done
      c.args.options i w
      (c.exchange_pass.ensures.1 _ _ _ ((c.stream_pass.ensures.1 i p w h).done _ c.in_ok-s.was)),
)
