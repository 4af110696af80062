-- A stream, and the rounds of layers. Assumes nothing.
use Rattle.points.specs.Points.{some_later, long_same, long_then}
use Rattle.litinski.specs.LayerRounds.{litinski_zero, litinski_limit, litinski_some, litinski_end}
use native.Mathlib.Omega.{arith}
use Rattle.steps.specs.State.{is_limit}
use Rattle.litinski.proofs.litinski_rounds.Goals as goal

pub returns-then-options-eq0 : goal.returns-then-options-eq0
returns-then-options-eq0 c = (long_same _ _, λ p w h. litinski_zero c.args.options h c.if-options-eq0.true)

pub stream_pass-requires : goal.stream_pass-requires
stream_pass-requires c = (some_later (omega arith) c.requires.0, c.requires.1)

pub shape_of-words-in_err-run : goal.shape_of-words-in_err-run
shape_of-words-in_err-run c = c.stream_pass.ensures.0.words

pub shape_of-numbers-in_err-run : goal.shape_of-numbers-in_err-run
shape_of-numbers-in_err-run c = c.stream_pass.ensures.0.numbers

pub returns-in_err-run : goal.returns-in_err-run
returns-in_err-run c = rw (is_limit _ c.from_residual.ensures.0) (
  c.stream_pass.ensures.0,
  λ p w h. litinski_limit c.args.options w c.if-options-eq0.false
      (c.stream_pass.ensures.1 0 p w h) c.in_err-run.was,
)

pub litinski_from-requires : goal.litinski_from-requires
litinski_from-requires c = (
  litinski_some c.args.options _ c.if-options-eq0.false (c.stream_pass.ensures.1 0 _ _ c.requires.0.at) _
      c.in_ok-run.was,
  c.requires.1,
)

pub shape_of-words : goal.shape_of-words
shape_of-words c = (long_then c.stream_pass.ensures.0 c.litinski_from.ensures.0).words

pub shape_of-numbers : goal.shape_of-numbers
shape_of-numbers c = (long_then c.stream_pass.ensures.0 c.litinski_from.ensures.0).numbers

pub returns : goal.returns
returns c = (
  long_then c.stream_pass.ensures.0 c.litinski_from.ensures.0,
  λ p w h. let a =
      c.stream_pass.ensures.1 0 p w h in litinski_end c.args.options w c.if-options-eq0.false a
      (c.litinski_from.ensures.1 p _ (a.done _ c.in_ok-run.was)),
)
