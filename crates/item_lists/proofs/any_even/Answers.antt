-- The test at each place is the test of its item. Assumes nothing.
use mathlib.Core.Path.{◌∙◌, refl}
use borrow.Author.Rules.{rules}
use Rattle.std.proofs.Common.{tests}
use Rattle.std.proofs.lemmas.Iterator.{YieldsList-from_range}
use Rattle.std.proofs.lemmas.Iterator.Search.{any_from_yields_List}
use Rattle.model.specs.Items.{is_even_rotation}
use Rattle.items.specs.View.{item_said, item_at, view_any}
use Rattle.item_lists.proofs.any_even.Goals as goal

pub returns : goal.returns
returns c =
    let a = c.args in
    any_from_yields_List (λ j. is_even_rotation (item_at a.numbers.now a.u a.b j)) _ _ _ c.any.ensures.ran
    (YieldsList-from_range a.from a.end _ refl refl) (λ x b q k. search (rules, tests))
    ∙ view_any item_said _ _ _ is_even_rotation _ _
