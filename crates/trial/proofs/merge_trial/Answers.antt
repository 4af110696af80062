-- The loop's invariant: the rotations before i are merged. Assumes nothing.
use Rattle.trial.specs.Plain.{all_pre}
use Rattle.trial.proofs.merge_trial.Goals as goal

pub merge_turn-requires : goal.merge_turn-requires
merge_turn-requires c = (all_pre c.requires c.loop-i.invariant.2, c.loop-i-test.true)
