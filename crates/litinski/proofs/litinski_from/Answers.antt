-- Round by round, the rounds that are left come to the same. Assumes nothing.
use Rattle.points.specs.Points.{long_then}
use Rattle.litinski.specs.LayerRounds.{rounds_first, rounds_some, rounds_stop, layered_some, rounds_limit}
use Rattle.litinski.specs.LayerRounds.{rounds_next, rounds_end}
use native.Mathlib.Omega.{arith}
use Rattle.steps.specs.State.{is_limit}
use Rattle.litinski.proofs.litinski_from.Goals as goal

pub loop-j-init : goal.loop-j-init
loop-j-init c = rounds_first _ _ _ _ _

pub layering_pass-s-requires : goal.layering_pass-s-requires
layering_pass-s-requires c = rounds_some c.loop-j.invariant c.loop-j-test.true c.requires.0 c.requires.1

pub shape_of-words-then-s-run : goal.shape_of-words-then-s-run
shape_of-words-then-s-run c = (long_then c.loop-j.invariant.long c.layering_pass-s.ensures.0).words

pub shape_of-numbers-then-s-run : goal.shape_of-numbers-then-s-run
shape_of-numbers-then-s-run c = (long_then c.loop-j.invariant.long c.layering_pass-s.ensures.0).numbers

pub returns-then-s-run : goal.returns-then-s-run
returns-then-s-run c = (
  long_then c.loop-j.invariant.long c.layering_pass-s.ensures.0,
  λ p w h. rounds_stop c.loop-j.invariant
      c.loop-j-test.true c.layering_pass-s.ensures h c.if-s-run.true c.requires.1,
)

pub stream_pass-requires : goal.stream_pass-requires
stream_pass-requires c = (
  layered_some c.loop-j.invariant c.loop-j-test.true c.layering_pass-s.ensures c.requires.0.at c.requires.1,
  c.requires.1,
)

pub shape_of-words-in_err-run : goal.shape_of-words-in_err-run
shape_of-words-in_err-run c = (long_then (long_then c.loop-j.invariant.long c.layering_pass-s.ensures.0) c.stream_pass.ensures.0).words

pub shape_of-numbers-in_err-run : goal.shape_of-numbers-in_err-run
shape_of-numbers-in_err-run c = (long_then (long_then c.loop-j.invariant.long c.layering_pass-s.ensures.0) c.stream_pass.ensures.0).numbers

pub returns-in_err-run : goal.returns-in_err-run
returns-in_err-run c = rw (is_limit _ c.from_residual.ensures.0) (
  long_then (long_then c.loop-j.invariant.long c.layering_pass-s.ensures.0) c.stream_pass.ensures.0,
  λ p w h. rounds_limit c.loop-j.invariant
      c.loop-j-test.true c.layering_pass-s.ensures c.if-s-run.false
      c.stream_pass.ensures h c.in_err-run.was,
)

pub overflow_step-j : goal.overflow_step-j
overflow_step-j c = omega (arith, c.requires.1.rounds, c.loop-j-test.true)

pub loop-j-smaller : goal.loop-j-smaller
loop-j-smaller c = omega (arith, c.loop-j-test.true)

pub loop-j-preserved : goal.loop-j-preserved
loop-j-preserved c =
    rounds_next c.loop-j.invariant c.loop-j-test.true c.layering_pass-s.ensures c.if-s-run.false
    c.stream_pass.ensures _ c.in_ok-run.was

pub shape_of-words : goal.shape_of-words
shape_of-words c = c.loop-j.invariant.long.words

pub shape_of-numbers : goal.shape_of-numbers
shape_of-numbers c = c.loop-j.invariant.long.numbers

pub returns : goal.returns
returns c = (c.loop-j.invariant.long, rounds_end c.loop-j.invariant c.loop-j-test.false c.requires.1)
