-- Both words are read. Assumes nothing.
use Rattle.axes.specs.View.{read_long}
use Rattle.certificate.specs.Terms.{a_inside, b_inside}
use Rattle.certificate.proofs.odd_phase_at.Goals as goal

pub odd_phase-requires : goal.odd_phase-requires
odd_phase-requires c =
    let h = c.requires in
    record {
      p_long = read_long _ _ _ c.axis-p.ensures (a_inside h);
      q_long = read_long _ _ _ c.axis-q.ensures (b_inside h);
    }
