-- What Listing leaves, in numbers. Assumes nothing.
use mathlib.Core.Path.{refl}
use Rattle.werdutxa.specs.Calls.{exported_listing}
use Rattle.werdutxa.proofs.werdutxa_list.Goals as goal

pub returns : goal.returns
returns c =
    exported_listing c.listing-listed.ensures
    c.number_of.ensures refl
