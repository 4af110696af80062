-- One more stream, or none. Assumes nothing.
use Rattle.points.specs.Points.{long_same}
use Rattle.merge_rounds.specs.OneRound.{count_pre}
use Rattle.merge_rounds.specs.Closing.{closing_zero, closing_off, closing_none, closing_even}
use Rattle.merge_rounds.proofs.closing_stream.Goals as goal

pub returns-then-options-eq0 : goal.returns-then-options-eq0
returns-then-options-eq0 c = (long_same _ _, λ i p w h. closing_zero c.args.options h c.if-options-eq0.true)

pub returns-then-not-options : goal.returns-then-not-options
returns-then-not-options c = (long_same _ _, λ i p w h. closing_off c.args.options h c.if-options-eq0.false c.if-not-options.true)

pub any_even-requires : goal.any_even-requires
any_even-requires c = count_pre c.requires.0.at

pub shape_of-words-then-any_even : goal.shape_of-words-then-any_even
shape_of-words-then-any_even c = c.stream_pass.ensures.0.words

pub shape_of-numbers-then-any_even : goal.shape_of-numbers-then-any_even
shape_of-numbers-then-any_even c = c.stream_pass.ensures.0.numbers

pub returns-then-any_even : goal.returns-then-any_even
returns-then-any_even c = (
  c.stream_pass.ensures.0,
  λ i p w h. closing_even c.args.options h c.if-options-eq0.false c.if-not-options.false
      c.any_even.ensures c.if-any_even.true (c.stream_pass.ensures.1 i p w h),
)

pub returns : goal.returns
returns c = (
  long_same _ _,
  λ i p w h. closing_none c.args.options h c.if-options-eq0.false c.if-not-options.false c.any_even.ensures
      c.if-any_even.false,
)
