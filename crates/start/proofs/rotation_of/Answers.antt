-- The two cases: the identity, or another word. Assumes nothing.
use mathlib.Core.Path.{refl, sym, ap, ◌∙◌}
use Rattle.pauli.specs.Word.{is_identity}
use Rattle.start.specs.Item.{rotation_identity, rotation_other}
use Rattle.start.proofs.rotation_of.Goals as goal

pub returns-then-is_identity : goal.returns-then-is_identity
returns-then-is_identity c =
    rw c.rotation.ensures (rotation_identity _ _ _ _
    (sym (ap is_identity c.axis.ensures) ∙ sym c.is_identity.ensures ∙ c.if-is_identity.true) refl refl)

pub returns : goal.returns
returns c =
    rw c.rotation-2.ensures (rotation_other _ _ _ _
    (sym (ap is_identity c.axis.ensures) ∙ sym c.is_identity.ensures ∙ c.if-is_identity.false) refl refl
    c.with_sign.ensures)
