-- A rotation that commutes with the word adds nothing. Assumes nothing.
use Rattle.certificate.specs.Meets.{share_meets, share_none}
use Rattle.certificate.proofs.row_share.Goals as goal

pub meets_word-requires : goal.meets_word-requires
meets_word-requires c = share_meets c.requires

pub returns-then-not-meets_word : goal.returns-then-not-meets_word
returns-then-not-meets_word c = share_none c.args.axes.sizes _ _ _ _ _ _ c.meets_word.ensures c.if-not-meets_word.true
