-- The four words are read. Assumes nothing.
use mathlib.Core.Path.{sym, ◌∙◌}
use Rattle.axes.specs.View.{read_long}
use Rattle.certificate.specs.Terms.{a_inside, b_inside}
use Rattle.certificate.proofs.same_words.Goals as goal

pub same_product-requires : goal.same_product-requires
same_product-requires c =
    let h = c.requires in
    let p = read_long _ _ _ c.axis-p.ensures (a_inside h.0) in
    record {
      q_long = read_long _ _ _ c.axis-q.ensures (b_inside h.0) ∙ sym p;
      r_long = read_long _ _ _ c.axis-r.ensures (a_inside h.1) ∙ sym p;
      s_long = read_long _ _ _ c.axis-s.ensures (b_inside h.1) ∙ sym p;
    }
