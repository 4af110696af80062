-- The list is gone over from its start, with no place kept. Assumes nothing.
use Rattle.model.specs.declared.Absorption.TheVariants.{Off as off}
use mathlib.Core.Path.{refl}
use Rattle.stream_items.specs.WaitingList.{listed, listed_as}
use Rattle.stream_items.proofs.absorb_waiting.Goals as goal

pub absorb_listed-requires : goal.absorb_listed-requires
absorb_listed-requires c = record { absorption = off; items = c.requires.items; pass = c.requires.pass; it = listed refl c.requires.it }

pub returns : goal.returns
returns c = (
  c.absorb_listed.ensures.0,
  λ n p h. listed_as refl h
      (c.absorb_listed.ensures.1 n p (listed refl h)),
)
