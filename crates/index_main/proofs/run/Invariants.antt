-- The stores hold the axes of the words so far.
use Rattle.index_main.specs.Ready.{Ready}
use Rattle.index_main.proofs.run.Given as goal

abbrev pub invariant-loop-w : goal.invariant-loop-w
invariant-loop-w g l = Ready l.sizes l.peak l.words l.numbers
