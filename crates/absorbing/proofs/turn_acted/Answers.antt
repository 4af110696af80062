-- The images of the qubits of the numbers from the j-th on are still to be changed. Assumes nothing.
use Rattle.absorbing.specs.Qubits.{acted_first, acted_there, acted_turn, acted_next, acted_end}
use native.Mathlib.Omega.{arith}
use Rattle.absorbing.proofs.turn_acted.Goals as goal

pub loop-j-init : goal.loop-j-init
loop-j-init c = acted_first

pub acted_at-acted-requires : goal.acted_at-acted-requires
acted_at-acted-requires c = acted_there c.loop-j.invariant c.loop-j-test.true c.requires

pub turn_bits-requires : goal.turn_bits-requires
turn_bits-requires c = acted_turn c.loop-j.invariant c.loop-j-test.true c.acted_at-acted.ensures c.requires

pub overflow_step-j : goal.overflow_step-j
overflow_step-j c = omega (arith, c.loop-j-test.true, c.requires.it.few)

pub loop-j-smaller : goal.loop-j-smaller
loop-j-smaller c = omega (arith, c.loop-j-test.true)

pub loop-j-preserved : goal.loop-j-preserved
loop-j-preserved c = acted_next c.loop-j.invariant c.loop-j-test.true c.acted_at-acted.ensures c.turn_bits.ensures

pub shape_of-words : goal.shape_of-words
shape_of-words c = (acted_end c.loop-j.invariant c.loop-j-test.false c.requires.count c.requires.it).words.long

pub shape_of-numbers : goal.shape_of-numbers
shape_of-numbers c = (acted_end c.loop-j.invariant c.loop-j-test.false c.requires.count c.requires.it).numbers.long

pub returns : goal.returns
returns c = acted_end c.loop-j.invariant c.loop-j-test.false
