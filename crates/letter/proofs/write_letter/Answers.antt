-- The part that is lent comes back as zeros; two stores make the letter. Assumes nothing.
use lib.ListN.{length-set}
use Rattle.letter.proofs.Single.{put_letter}
use native.Mathlib.Omega.{arith}
use Rattle.letter.proofs.write_letter.Goals as goal

pub bounds-words-at-2 : goal.bounds-words-at-2
bounds-words-at-2 c = simp length-set (omega arith)

pub returns : goal.returns
returns c =
    put_letter _ _ _ _ _ _ _ _ c.requires.0 c.requires.1 (c.fill.ensures.after (λ y h. h)) c.has_x.ensures
    c.has_z.ensures
