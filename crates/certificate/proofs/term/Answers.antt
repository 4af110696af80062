-- Another product adds nothing; else the phase says what is added. Assumes nothing.
use native.Mathlib.Omega.{arith}
use Rattle.certificate.specs.Sums.{pair_small}
use Rattle.certificate.specs.Terms.{term_other, term_same}
use Rattle.certificate.proofs.SignedSum.{read_as}
use Rattle.certificate.proofs.term.Goals as goal

pub returns-then-not-same_words : goal.returns-then-not-same_words
returns-then-not-same_words c = term_other c.args.z _ _ _ _ _ c.same_words.ensures c.if-not-same_words.true

pub returns : goal.returns
returns c =
    let s = c.same_words in
    let a = c.args in
    read_as 16 (omega arith)
    (term_same a.z _ _ _ _ _ s.ensures c.if-not-same_words.false c.odd_phase_at.ensures
    c.signed_product.ensures)
    (pair_small _ _ _ _ _)
