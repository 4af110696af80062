-- Items that commute, or their word's sum. Assumes nothing.
use Rattle.std.proofs.Common.{not, ap, ◌∙◌}
use Rattle.certificate.specs.Turns.{pair_commutes}
use Rattle.certificate.specs.Earlier.{pair_stored, pair_word, pair_read}
use Rattle.certificate.proofs.pair_vanishes.Goals as goal

pub anticommute-requires : goal.anticommute-requires
anticommute-requires c = pair_stored c.requires c.axis_at-pa.ensures c.axis_at-qa.ensures

pub word_vanishes-requires : goal.word_vanishes-requires
word_vanishes-requires c =
    pair_word c.requires c.axis_at-pa.ensures c.axis_at-qa.ensures c.anticommute.ensures
    c.if-not-anticommute.false

pub returns-then-not-anticommute : goal.returns-then-not-anticommute
returns-then-not-anticommute c =
    ap not c.if-not-anticommute.true
    ∙ pair_read c.requires c.axis_at-pa.ensures c.axis_at-qa.ensures
    (pair_commutes c.args.axes.sizes _ _ _ _ _ _ c.anticommute.ensures c.if-not-anticommute.true)
