-- Round by round, the rounds that are left come to the same. Assumes nothing.
use Rattle.points.specs.Points.{long_then}
use Rattle.merge_rounds.specs.AllRounds.{rounds_first, rounds_some, rounds_limit, rounds_count, rounds_stop}
use Rattle.merge_rounds.specs.AllRounds.{rounds_next, rounds_end}
use native.Mathlib.Omega.{arith}
use Rattle.steps.specs.State.{is_limit}
use Rattle.merge_rounds.proofs.rounds_from.Goals as goal

pub overflow_add-t : goal.overflow_add-t
overflow_add-t c = omega (arith, c.requires.0.at.granted.sized.operations)

pub loop-j-init : goal.loop-j-init
loop-j-init c = rounds_first _ _ _ _ _

pub merge_round-requires : goal.merge_round-requires
merge_round-requires c = (rounds_some c.loop-j.invariant c.loop-j-test.true c.requires.0 c.requires.1, c.requires.1)

pub shape_of-words-in_err-s : goal.shape_of-words-in_err-s
shape_of-words-in_err-s c = (long_then c.loop-j.invariant.long c.merge_round.ensures.0).words

pub shape_of-numbers-in_err-s : goal.shape_of-numbers-in_err-s
shape_of-numbers-in_err-s c = (long_then c.loop-j.invariant.long c.merge_round.ensures.0).numbers

pub returns-in_err-s : goal.returns-in_err-s
returns-in_err-s c = rw (is_limit _ c.from_residual.ensures.0) (
  long_then c.loop-j.invariant.long c.merge_round.ensures.0,
  λ p w h. rounds_limit c.loop-j.invariant
      c.loop-j-test.true c.merge_round.ensures h c.in_err-s.was,
)

pub t_count-left-requires : goal.t_count-left-requires
t_count-left-requires c = rounds_count c.loop-j.invariant c.loop-j-test.true c.merge_round.ensures c.requires.0.at _ c.in_ok-s.was

pub shape_of-words-then-s-run : goal.shape_of-words-then-s-run
shape_of-words-then-s-run c = (long_then c.loop-j.invariant.long c.merge_round.ensures.0).words

pub shape_of-numbers-then-s-run : goal.shape_of-numbers-then-s-run
shape_of-numbers-then-s-run c = (long_then c.loop-j.invariant.long c.merge_round.ensures.0).numbers

pub returns-then-s-run : goal.returns-then-s-run
returns-then-s-run c = (
  long_then c.loop-j.invariant.long c.merge_round.ensures.0,
  λ p w h. rounds_stop c.loop-j.invariant
      c.loop-j-test.true c.merge_round.ensures h _ c.in_ok-s.was
      _ c.t_count-left.ensures c.requires.1 c.if-s-run.true,
)

pub overflow_step-j : goal.overflow_step-j
overflow_step-j c = omega (arith, c.requires.1.rounds, c.loop-j-test.true)

pub loop-j-smaller : goal.loop-j-smaller
loop-j-smaller c = omega (arith, c.loop-j-test.true)

pub loop-j-preserved : goal.loop-j-preserved
loop-j-preserved c =
    rounds_next c.loop-j.invariant c.loop-j-test.true c.merge_round.ensures _ c.in_ok-s.was _
    c.t_count-left.ensures c.if-s-run.false

pub shape_of-words : goal.shape_of-words
shape_of-words c = c.loop-j.invariant.long.words

pub shape_of-numbers : goal.shape_of-numbers
shape_of-numbers c = c.loop-j.invariant.long.numbers

pub returns : goal.returns
returns c = (c.loop-j.invariant.long, rounds_end c.loop-j.invariant c.loop-j-test.false c.requires.1)
