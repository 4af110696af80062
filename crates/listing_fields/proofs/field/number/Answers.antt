-- By the number of bytes, then by the first two. Assumes nothing.
use Rattle.std.proofs.Common.{arith, ◌∙◌, ltb-true, ltb-false}
use Rattle.listing_fields.specs.Field.{numeral_digits}
use Rattle.listing_fields.proofs.field.number.Goals as goal

pub returns-in_default : goal.returns-in_default
returns-in_default c =
    c.digits.ensures ∙ numeral_digits _ (grind (arith, ltb-true, ltb-false)) (λ p q. grind (arith, ltb-true, ltb-false)) (λ p q r. grind (arith, ltb-true, ltb-false))
