-- Every number is 0 where the word is that of zeros. Assumes nothing.
use Rattle.std.proofs.Common.{◌≡◌, refl, ap, ◌∙◌, List, [], ◌∷◌, ℕ, Bool, ◌&&◌, ◌==◌, length, replicate, rules, tests}
use Rattle.std.specs.List.{list_all}
use Rattle.std.proofs.lemmas.Iterator.{YieldsList-from_slice}
use Rattle.std.proofs.lemmas.Iterator.Search.{all_from_yields_List}
use Rattle.store.specs.Equal.{same_list}
use Rattle.pauli.specs.Word.{is_identity}
use Rattle.pauli.proofs.is_identity.Goals as goal

zeros : (p : List ℕ) → list_all (λ w. w == 0) p ≡ same_list p (replicate (length p) 0)
unfolding same_list
zeros [] = refl
zeros (w ∷ p) = ap (λ (b : Bool). (w == 0) && b) (zeros p)

pub returns : goal.returns
unfolding is_identity
returns c =
    let p = c.args.p.now in
    all_from_yields_List (λ w. w == 0) _ _ c.all.result c.all.ensures.ran (YieldsList-from_slice p cc) (λ x b q k. search (rules, tests))
    ∙ zeros p
