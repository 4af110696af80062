-- What the exchange pass adds to the run's counters. Assumes nothing.
use Rattle.std.specs.Prelude.{◌≡◌, List, ℕ, ◌+◌, ◌<◌, ◌^◌}
use Rattle.std.proofs.Common.{sym, subst, arith}
use Rattle.model.specs.declared.Counters.{Counters}
use Rattle.axes.specs.declared.Sizes.{Sizes}
use Rattle.lent_passes.specs.Raised.{more_swaps}
use Rattle.model.specs.declared.ExchangeRules.{ExchangeRules}
use Rattle.exchange.specs.declared.Progress.{Progress}
use Rattle.exchange.specs.Segments.{Exchanged}

-- a pass makes no more exchanges than there are items
pub room_for : {z : Sizes} {c : ExchangeRules} {ws xs ys : List ℕ} {k : ℕ} {r : Progress} (h : Counters)
    → h.swaps + k < 2 ^ 64 → Exchanged z c ws xs k r ys → h.swaps + r.swaps < 2 ^ 64
room_for h o e = let f = e.few in omega arith

-- what the core and the adder say together
pub exchanged : {z : Sizes} {c : ExchangeRules} {ws xs ys : List ℕ} {k : ℕ} {h' : Counters} {q r : Progress} (h : Counters)
    → Exchanged z c ws xs k q ys → (h' ≡ more_swaps h q.swaps) × (r ≡ q)
    → Exchanged z c ws xs k r ys × (h' ≡ more_swaps h r.swaps)
exchanged {z} {c} {ws} {xs} {ys} {k} {h'} h a e =
    subst (λ (t : Progress). Exchanged z c ws xs k t ys × (h' ≡ more_swaps h t.swaps)) (sym e.1) (a, e.0)
