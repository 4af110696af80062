-- The word is that of both axes together. Assumes nothing.
use Rattle.certificate.specs.Meets.{word_meets}
use Rattle.certificate.proofs.meets_word.Goals as goal

pub returns : goal.returns
returns c = word_meets c.args.axes.sizes _ _ _ _ c.anticommute.ensures c.anticommute-2.ensures
