-- Unmarked, the identity, a letter, a product: what is written in each case. Assumes nothing.
use Rattle.mentions.specs.Down.{from_unmarked, from_identity, from_letter, from_product}
use Rattle.mentions.proofs.mark_from.Goals as goal

pub returns-then-read-eq0 : goal.returns-then-read-eq0
returns-then-read-eq0 c = from_unmarked _ c.read.ensures c.if-read-eq0.true

pub returns-in-Identity : goal.returns-in-Identity
returns-in-Identity c = from_identity c.requires _ c.read.ensures c.if-read-eq0.false c.in-Identity.ensures

pub returns-in-Letter : goal.returns-in-Letter
returns-in-Letter c = from_letter c.requires _ c.read.ensures c.if-read-eq0.false c.in-Letter.ensures c.write.ensures

pub returns-in-Product : goal.returns-in-Product
returns-in-Product c =
    from_product c.requires _ c.read.ensures c.if-read-eq0.false c.in-Product.ensures c.write-in-Product.ensures
    c.write-in-Product-2.ensures
