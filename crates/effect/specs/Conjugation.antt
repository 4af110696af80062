-- What an even rotation makes of the operation that it passes: the image of its word, and its angle. Assumes nothing.
use Rattle.std.specs.Prelude.{Bool, true, false}
use Rattle.groups.specs.Root.{◌⊞◌}
use Rattle.groups.specs.Eighth.{Eighth, e0, e1, e2, e3, e4, e5, e6, e7, flip}
use Rattle.groups.proofs.Rules as Rules
use Rattle.effect.specs.Phase.{Quarter, q0, q1, q2, q3, odd, ◌⊞₄◌}
use Rattle.effect.specs.Words.{Setting}

module _ (H : Setting) where
  open H use {words as Ws}
  open Ws use {W, ◌⊕◌, ph}

  infixl 65 ◌⊕◌
  -- the image of P under the even rotation by e about B, with its phase in front:
  -- "changes each held image P that anticommutes with B: k = 2 gives iBP, k = -2 gives -iBP, k = 4 gives -P"
  abbrev pub conj_at : Bool → Eighth → W → W → Quarter × W
  conj_at false e B P = (q0, P)
  conj_at true e0 B P = (q0, P)
  conj_at true e1 B P = (q0, P)
  conj_at true e2 B P = (q1 ⊞₄ ph B P, B ⊕ P)
  conj_at true e3 B P = (q0, P)
  conj_at true e4 B P = (q2, P)
  conj_at true e5 B P = (q0, P)
  conj_at true e6 B P = (q3 ⊞₄ ph B P, B ⊕ P)
  conj_at true e7 B P = (q0, P)

  unfoldable pub conj : Eighth → W → W → Quarter × W
  conj e B P = conj_at (odd (ph B P)) e B P

  -- the angle about the carried axis: the sign is taken into the angle
  abbrev pub turned : Quarter → Eighth → Eighth
  turned q0 k = k
  turned q1 k = k
  turned q2 k = flip k
  turned q3 k = flip k
