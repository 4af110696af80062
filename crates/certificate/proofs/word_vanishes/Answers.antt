-- An earlier pair of the row, or of an earlier row, had the word; else the sum tells. Assumes nothing.
use Rattle.std.proofs.Common.{sym, ◌∙◌, arith}
use Rattle.certificate.specs.Turns.{sum_most, sum_whole, pair_sum}
use Rattle.certificate.specs.Earlier.{word_has, word_rows, in_row, in_rows}
use Rattle.certificate.proofs.SignedSum.{zero_read}
use Rattle.certificate.proofs.word_vanishes.Goals as goal
use Rattle.certificate.proofs.word_vanishes.Goals.{then-has_word, else-has_word}

pub has_word-requires : goal.has_word-requires
has_word-requires c = word_has c.requires

pub rows_have-requires : goal.rows_have-requires
rows_have-requires c = word_rows c.requires

pub sum_at-requires : goal.sum_at-requires
sum_at-requires c = c.requires.sum

pub returns-then-rows_have : goal.returns-then-rows_have
returns-then-rows_have c =
    c.if-rows_have.true ∙ elim c.if-has_word.branch [
      | then-has_word w ↦ in_row c.requires (c.has_word.ensures w.if-has_word.true)
      | else-has_word w ↦ in_rows c.requires (w.rows_have.ensures (sym w.value-is ∙ c.if-rows_have.true))
    ]

pub returns-else-rows_have : goal.returns-else-rows_have
returns-else-rows_have c =
    zero_read sum_most (omega arith) c.sum_at.ensures (sum_whole c.args.axes.stored c.requires.sum) ∙ pair_sum c.args.axes.sizes _ _ _ _ _ _
    c.requires.odd c.sum_at.ensures
