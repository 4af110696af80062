-- Both words are read where they lie. Assumes nothing.
use mathlib.Core.Path.{ap, ◌∙◌}
use lib.ListN.{length}
use Rattle.store.specs.Part.{part_length}
use Rattle.absorbing.proofs.odd_phase_at.Goals as goal

pub odd_phase-requires : goal.odd_phase-requires
odd_phase-requires c =
    let pre = c.requires in
    record {
      p_long = ap length c.word_at.ensures ∙ part_length _ _ _ pre.0;
      q_long = ap length c.word_at-2.ensures ∙ part_length _ _ _ pre.1;
    }

pub returns : goal.returns
returns c = rw (c.word_at.ensures, c.word_at-2.ensures) at c.odd_phase.ensures
