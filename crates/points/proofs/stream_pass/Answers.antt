-- The stream's pass. Assumes nothing.
use Rattle.points.specs.Counts.{stream_room}
use Rattle.points.specs.StreamPass.{stream_pre, stream_long, stream_limit, stream_done}
use Rattle.steps.specs.State.{is_limit}
use Rattle.points.proofs.stream_pass.Goals as goal

pub stream-t-requires : goal.stream-t-requires
stream-t-requires c = (
  stream_pre c.args.options c.args.merging c.args.run c.absorption_of-absorption.ensures c.requires.0,
  stream_room c.requires.0 c.counters_of.ensures,
)

pub shape_of-words-in_err-s : goal.shape_of-words-in_err-s
shape_of-words-in_err-s c = (stream_long c.stream-t.ensures.left).words

pub shape_of-numbers-in_err-s : goal.shape_of-numbers-in_err-s
shape_of-numbers-in_err-s c = (stream_long c.stream-t.ensures.left).numbers

pub returns-in_err-s : goal.returns-in_err-s
returns-in_err-s c = rw (is_limit _ c.from_residual.ensures.0) (
  stream_long c.stream-t.ensures.left,
  stream_limit c.args.options c.args.merging c.args.run
      c.absorption_of-absorption.ensures c.counters_of.ensures c.stream-t.ensures c.in_err-s.was,
)

pub shape_of-words : goal.shape_of-words
shape_of-words c = (stream_long c.stream-t.ensures.left).words

pub shape_of-numbers : goal.shape_of-numbers
shape_of-numbers c = (stream_long c.stream-t.ensures.left).numbers

pub returns : goal.returns
returns c = (
  stream_long c.stream-t.ensures.left,
  stream_done c.args.options c.args.merging c.args.run
      c.absorption_of-absorption.ensures c.counters_of.ensures c.stream-t.ensures c.in_ok-s.was
      c.with_counts.ensures,
)
