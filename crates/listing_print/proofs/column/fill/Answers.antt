-- -1, or the digits with blanks in front. Assumes nothing.
use Rattle.listing_print.specs.Columns.{column_minus, column_digits}
use Rattle.listing_print.proofs.column.fill.Goals as goal

pub returns-then-v-eq-MINUS : goal.returns-then-v-eq-MINUS
returns-then-v-eq-MINUS c = column_minus _ c.fill.new.self c.args.d.now c.if-v-eq-MINUS.true c.requires (c.fill.ensures.after (λ y e. e))

pub returns : goal.returns
returns c =
    column_digits _ c.digits-a.result c.digits-a.new.d c.if-v-eq-MINUS.false c.digits-a.ensures (c.fill-2.ensures.after (λ y e. e))
