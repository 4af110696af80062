-- `find` stops at the first place with the axis. Assumes nothing.
use borrow.Author.Rules.{rules}
use Prim.Native.Nat.{ℕ}
use Rattle.std.specs.Prelude.{◌≡◌, ◌≢◌}
use Rattle.std.proofs.Common.{tests}
use Rattle.std.proofs.lemmas.Iterator.{first_from_Range}
use Rattle.items.specs.View.{tagged_at}
use Rattle.layers.specs.PlaceOf.{first_place}
use Rattle.layers.proofs.place_of.Goals as goal

pub returns : goal.returns
returns c =
    let a = c.args in
    let axis : ℕ → ℕ = λ j. (tagged_at a.numbers.now a.u a.b j).axis in
    first_place _ _ _ _ _ _ _ c.requires.order
    (first_from_Range _ _ _ _ (λ j. axis j ≡ a.axis) (λ j. axis j ≢ a.axis) c.find.ensures.ran
    (λ x q k. search (rules, tests)) (λ x q k. search (rules, tests)))
