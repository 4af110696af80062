-- The word that was worked out is compared with the axis. Assumes nothing.
use Rattle.carrying.specs.Carries.{axis_there, carries_told}
use Rattle.carrying.proofs.carries.Goals as goal

pub carry_word-requires : goal.carry_word-requires
carry_word-requires c = record { state = c.requires.state; it = c.requires.it.carry }

pub axis-requires : goal.axis-requires
axis-requires c = axis_there c.requires.it (c.carry_word.ensures c.requires.state c.requires.it.carry)

pub returns : goal.returns
returns c = (
  (c.carry_word.ensures c.requires.state c.requires.it.carry).words,
  λ t h. carries_told h
      (c.carry_word.ensures t h.carry) c.scratch_at.ensures c.word_at-image.ensures c.axis.ensures
      c.same.ensures,
)
