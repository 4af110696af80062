-- The numbers from the j-th on are still to be gone through. Assumes nothing.
use Rattle.carrying.specs.Letters.{carry_granted, carry_axis, word_first, word_there, word_turn, word_next, word_end}
use native.Mathlib.Omega.{arith}
use Rattle.carrying.proofs.carry_letters.Goals as goal

pub axis_at-at-requires : goal.axis_at-at-requires
axis_at-at-requires c = omega (arith, carry_axis c.requires.it, (carry_granted c.requires.it).sized.limit)

pub loop-j-init : goal.loop-j-init
loop-j-init c = word_first

pub acted_at-acted-requires : goal.acted_at-acted-requires
acted_at-acted-requires c = (word_there c.loop-j.invariant c.axis_at-at.ensures c.requires, c.loop-j-test.true)

pub carry_bits-phase-requires : goal.carry_bits-phase-requires
carry_bits-phase-requires c =
    word_turn c.loop-j.invariant c.axis_at-at.ensures c.loop-j-test.true c.acted_at-acted.ensures
    c.requires

pub overflow_step-j : goal.overflow_step-j
overflow_step-j c = omega (arith, c.loop-j-test.true, (carry_granted c.requires.it).sized.few)

pub loop-j-smaller : goal.loop-j-smaller
loop-j-smaller c = omega (arith, c.loop-j-test.true)

pub loop-j-preserved : goal.loop-j-preserved
loop-j-preserved c =
    word_next c.loop-j.invariant c.axis_at-at.ensures c.loop-j-test.true c.acted_at-acted.ensures
    c.requires c.carry_bits-phase.ensures

pub shape_of-words : goal.shape_of-words
shape_of-words c = c.loop-j.invariant.words.long

pub returns : goal.returns
returns c = word_end c.loop-j.invariant c.loop-j-test.false
