-- 02, M-107: what the order of ties decides, and what holds in either. Assumes nothing.
use Rattle.std.specs.Prelude.{◌≡◌, Bool, ℕ}
use Rattle.std.proofs.Math.Path.{refl}
use Rattle.std.proofs.Math.Bool.{true, false}
use Rattle.std.proofs.Math.Option.{Option, none, some, or_else}
use mathlib.Core.List.{List, [], ◌∷◌}
use Rattle.model.specs.declared.ExchangeRules.{ExchangeRules}
use Rattle.model.specs.Lists.{when◌then◌else◌}
use Rattle.model.specs.Exchange.{Triple, Swap, first_with_second, second_with_third, try_exchanges, try_triple}
use Rattle.theory.specs.Cases.{by_if, by_else}
use Rattle.theory.specs.Every.{Every}

or_none : (o : Option Swap) → or_else o none ≡ o
unfolding or_else
or_none none = refl
or_none (some x) = refl

module _ (l : ℕ) (axes : List (List ℕ)) (rules : ExchangeRules) (t : Triple) where
  abbrev first : Option Swap
  first = first_with_second l axes rules t

  abbrev second : Option Swap
  second = second_with_third l axes rules t

  chosen : (b : Bool) {x y : Swap} (f g : Option Swap) → f ≡ some x → g ≡ some y
      → (when b then or_else g f else or_else f g) ≡ some (when b then y else x)
  unfolding when◌then◌else◌ or_else
  chosen true f g e d = rw d refl
  chosen false f g e d = rw e refl

  -- "Where both exchanges improve a triple at one start and end, take second with third"
  pub both_improve : {x y : Swap} → first ≡ some x → second ≡ some y
      → try_exchanges l axes rules t ≡ some (when rules.second_first then y else x)
  unfolding try_exchanges
  both_improve = chosen rules.second_first first second

  -- where only one does, either order takes it
  pub first_improves : second ≡ none → try_exchanges l axes rules t ≡ first
  unfolding try_exchanges
  first_improves e = by_if (λ (o : Option Swap). o ≡ first) rules.second_first _ _ (rw e (unfold or_else in refl)) (rw e (or_none first))

  pub second_improves : first ≡ none → try_exchanges l axes rules t ≡ second
  unfolding try_exchanges
  second_improves e = by_if (λ (o : Option Swap). o ≡ second) rules.second_first _ _ (rw e (or_none second)) (rw e (unfold or_else in refl))

-- what holds of no swap and of both exchanges of each triple holds of what is found
module _ (l : ℕ) (axes : List (List ℕ)) (rules : ExchangeRules) (P : Option Swap → Type 0) (Q : Triple → Type 0) (no_swap : P none)
    (first : (t : Triple) → Q t → P (first_with_second l axes rules t)) (second : (t : Triple) → Q t → P (second_with_third l axes rules t)) where
  either_order : (t : Triple) → Q t → P (try_exchanges l axes rules t)
  unfolding try_exchanges
  either_order t h = by_if P _ _ _ (by_else P _ _ (second t h) (first t h)) (by_else P _ _ (first t h) (second t h))

  pub try_triple_either : (ts : List Triple) → Every Q ts → P (try_triple l axes rules ts)
  unfolding try_triple
  try_triple_either [] h = no_swap
  try_triple_either (t ∷ ts) h = by_else P _ _ (by_if P _ _ _ (either_order t h.0) no_swap) (try_triple_either ts h.1)
