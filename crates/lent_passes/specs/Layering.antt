-- What the layering pass adds to the run's counters. Assumes nothing.
use Rattle.std.specs.Prelude.{◌≡◌, List, ℕ, ◌+◌, ◌<◌, ◌^◌}
use Rattle.std.proofs.Common.{sym, subst, arith}
use Rattle.model.specs.declared.Counters.{Counters}
use Rattle.axes.specs.declared.Sizes.{Sizes}
use Rattle.lent_passes.specs.Raised.{more_merges}
use Rattle.layering.specs.declared.Layering.{Layering}
use Rattle.layering.specs.Demands.{LayeredAs}

-- a pass merges no more rotations than there are items
pub room_for : {z : Sizes} {ws xs ys : List ℕ} {k : ℕ} {r : Layering} (h : Counters)
    → h.merges + k < 2 ^ 64 → LayeredAs z ws xs k r ys → h.merges + r.merged < 2 ^ 64
room_for h o e = let f = e.size in omega arith

-- what the core and the adder say together
pub layered : {z : Sizes} {ws xs ys : List ℕ} {k : ℕ} {h' : Counters} {q r : Layering} (h : Counters)
    → LayeredAs z ws xs k q ys → (h' ≡ more_merges h q.merged) × (r ≡ q)
    → LayeredAs z ws xs k r ys × (h' ≡ more_merges h r.merged)
layered {z} {ws} {xs} {ys} {k} {h'} h a e =
    subst (λ (t : Layering). LayeredAs z ws xs k t ys × (h' ≡ more_merges h t.merged)) (sym e.1) (a, e.0)
