-- Three kinds of nodes: the scratch word is zeros, a letter, or a product. Assumes nothing.
use Rattle.packing.specs.ValueLaws.{evaluated_identity, evaluated_letter}
use Rattle.packing.proofs.values.evaluate.Goals as goal

pub returns-in-Identity : goal.returns-in-Identity
returns-in-Identity c =
    evaluated_identity _ _ _ _ _ _ c.scratch_at-at.ensures c.in-Identity.is c.requires.scratch (c.fill.ensures.after (λ y h. h))

pub returns-in-Letter : goal.returns-in-Letter
returns-in-Letter c =
    evaluated_letter _ _ _ _ _ _ c.scratch_at-at.ensures c.in-Letter.is c.put_letter.ensures
