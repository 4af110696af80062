-- Slots that hold a value: one for each node that had its turn and is still to be used. Assumes nothing.
use Rattle.std.proofs.Math.Path.{◌≡◌}
use Rattle.std.specs.Prelude.{refl, List, ℕ, zero, suc, ◌+◌, ◌-◌, ◌≤◌, ◌<◌, get_or}
use native.Mathlib.Omega.{arith}
use Rattle.std.proofs.Math.Decide.{ℕ_discrete}
use Rattle.std.proofs.Math.Dec.{eqb}
use Rattle.std.proofs.Common.{eqb-true, eq-eqb, ne_eqb}
use Rattle.std.proofs.lemmas.Bool.{eqb-false}
use Rattle.model.specs.Lists.{when◌then◌else◌}
use Rattle.model.specs.Packing.{one_use_less, Pack, use_node}
use Rattle.theory.specs.Cases.{on_if, if_true, if_false}
use Rattle.theory.specs.PackedRoots.{less_other}
use Rattle.packing_states.specs.Counts.{less_same}

-- how many of the nodes below b are still to be used
unfoldable pub used_below : ℕ → List ℕ → ℕ
used_below zero uses = 0
used_below (suc b) uses = used_below b uses + (when eqb (get_or uses b 0) 0 then 0 else 1)

module _ (b : ℕ) (uses : List ℕ) where
  -- node b is
  pub used_below_more : 0 < get_or uses b 0 → used_below (suc b) uses ≡ suc (used_below b uses)
  unfolding used_below
  used_below_more h =
      let one : ◌≡◌ {A = ℕ} (when eqb (get_or uses b 0) 0 then 0 else 1) 1 = if_false _ _ (ne_eqb (get_or uses b 0) 0 (λ z. omega arith)) in
      omega arith

  -- or is not
  pub used_below_same : get_or uses b 0 ≡ 0 → used_below (suc b) uses ≡ used_below b uses
  unfolding used_below
  used_below_same h =
      let none : ◌≡◌ {A = ℕ} (when eqb (get_or uses b 0) 0 then 0 else 1) 0 = if_true _ _ (eq-eqb (get_or uses b 0) 0 h) in
      omega arith

below_step : (b : ℕ) (uses : List ℕ) → used_below b uses ≤ used_below (suc b) uses
unfolding used_below
below_step b uses = omega arith

-- there is one
pub used_below_some : (b m : ℕ) (uses : List ℕ) → m < b → 0 < get_or uses m 0 → 0 < used_below b uses
used_below_some zero m uses h u = absurd (omega arith)
used_below_some (suc b) m uses h u = go (ℕ_discrete m b) (λ c. used_below_some b m uses c u)
  where
    go : Dec (m ≡ b) → (m < b → 0 < used_below b uses) → 0 < used_below (suc b) uses
    go (yes e) ih = omega (arith, used_below_more b uses (rw e at u))
    go (no ne) ih = omega (arith, below_step b uses, ih (omega arith))

-- a use of a node at or above b
used_below_other : (b m : ℕ) (uses : List ℕ) → b ≤ m → used_below b (one_use_less m uses) ≡ used_below b uses
unfolding used_below
used_below_other zero m uses h = refl
used_below_other (suc b) m uses h = rw (less_other uses m b (λ z. omega arith), used_below_other b m uses (omega arith)) refl

-- the last use of a node: one less is still to be used
last_use : (x : ℕ) → 0 < x → (when eqb (x - 1) 0 then 0 else 1) + (when eqb x 1 then 1 else 0) ≡ 1
last_use x h =
    on_if (λ (y : ℕ). (when eqb (x - 1) 0 then 0 else 1) + y ≡ 1) (eqb x 1) 1 0
    (λ e. let z : x - 1 ≡ 0 = omega (arith, eqb-true x 1 e) in
    let w : ◌≡◌ {A = ℕ} (when eqb (x - 1) 0 then 0 else 1) 0 = if_true _ _ (eq-eqb (x - 1) 0 z) in omega arith)
    (λ e. let w : ◌≡◌ {A = ℕ} (when eqb (x - 1) 0 then 0 else 1) 1 = if_false _ _ (ne_eqb (x - 1) 0 (λ z. eqb-false x 1 e (omega arith))) in
    omega arith)

-- a use of one below b
used_below_less : (b m : ℕ) (uses : List ℕ) → m < b → 0 < get_or uses m 0
    → used_below b (one_use_less m uses) + (when eqb (get_or uses m 0) 1 then 1 else 0) ≡ used_below b uses
unfolding used_below
used_below_less zero m uses h u = absurd (omega arith)
used_below_less (suc b) m uses h u = go (ℕ_discrete b m) (λ c. used_below_less b m uses c u)
  where
    go : Dec (b ≡ m) → (m < b → used_below b (one_use_less m uses) + (when eqb (get_or uses m 0) 1 then 1 else 0) ≡ used_below b uses)
        → used_below b (one_use_less m uses) + (when eqb (get_or (one_use_less m uses) b 0) 0 then 0 else 1)
        + (when eqb (get_or uses m 0) 1 then 1 else 0)
        ≡ used_below b uses + (when eqb (get_or uses b 0) 0 then 0 else 1)
    go (yes e) ih =
        let one : ◌≡◌ {A = ℕ} (when eqb (get_or uses m 0) 0 then 0 else 1) 1 = if_false _ _ (ne_eqb (get_or uses m 0) 0 (λ z. omega arith)) in
        rw (e, less_same uses m, used_below_other m m uses (omega arith)) (omega (arith, last_use (get_or uses m 0) u))
    go (no ne) ih = rw (less_other uses m b ne) (omega (arith, ih (omega arith)))

-- "a slot is freed after its last use"
pub live_use : (b m : ℕ) (k : Pack) → k.live ≡ used_below b k.uses → m < b → 0 < get_or k.uses m 0
    → (use_node m k).live ≡ used_below b (use_node m k).uses
unfolding use_node
live_use b m k h c u = omega (arith, used_below_less b m k.uses c u)
