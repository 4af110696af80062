-- A rotation that anticommutes with an axis blocks it. Assumes nothing.
use Rattle.std.specs.Prelude.{◌≡◌, refl, Bool, true, false, List, ℕ, zero, suc, ◌+◌, ◌-◌, ◌≤◌, ◌<◌, eqb, Option, Some, None, MatchOption, unwrap_or}
use Rattle.std.proofs.Common.{sym, ap, ◌∙◌, arith, eq-eqb, ne_eqb}
use Rattle.std.proofs.Math.Decide.{ℕ_discrete}
use Rattle.model.specs.Words.{anticommute}
use Rattle.model.specs.Items.{rot}
use Rattle.model.specs.Layering.{commutes_with_all}
use Rattle.axes.specs.declared.Sizes.{Sizes}
use Rattle.axes.specs.Held.{stored_axes}
use Rattle.items.specs.View.{tagged_at, rots_in}
use Rattle.commuting.specs.Commuting.{commutes_from, commutes_is, commutes_end, commutes_not, commutes_more}

-- r is the place of one that blocks, or the end, and none does
pub record Blocking (z : Sizes) (ws s : List ℕ) (b from end axis r : ℕ) : Type 0 where
  pub high : r ≤ end
  pub none : end ≤ r → commutes_from z ws s b end axis from ≡ true
  pub some : r < end → (from ≤ r) × (commutes_from z ws s b end axis from ≡ false)

-- so whether all commute
pub commutes_by : {z : Sizes} {ws s : List ℕ} {b from end axis r : ℕ} → Blocking z ws s b from end axis r
    → eqb r end ≡ commutes_with_all z.l (stored_axes z ws) (rots_in s z.u b from (end - from)) (rot axis 0)
commutes_by {z} {ws} {s} {b} {from} {end} {axis} {r} h = go (ℕ_discrete r end) ∙ sym (commutes_is z ws s b end axis from)
  where
    go : Dec (r ≡ end) → eqb r end ≡ commutes_from z ws s b end axis from
    go (yes e) = eq-eqb r end e ∙ sym (h.none (omega arith))
    go (no e) = ne_eqb r end e ∙ sym (h.some (omega (arith, h.high))).1

module _ (z : Sizes) (ws s : List ℕ) (b end axis : ℕ) where
  -- whether the rotation at a place anticommutes
  abbrev pub blocks : ℕ → Bool
  blocks i = anticommute z.l (stored_axes z ws) (tagged_at s z.u b i).axis axis

  -- one behind place i blocks
  blocked : (d i : ℕ) → i + d < end → blocks (i + d) ≡ true → commutes_from z ws s b end axis i ≡ false
  blocked zero i h e =
      let here : i + 0 ≡ i = omega arith in
      commutes_not z ws s b end axis {i = i} (omega arith) refl refl (ap blocks (sym here) ∙ e)
  blocked (suc d) i h e =
      let next : i + 1 + d ≡ i + suc d = omega arith in
      go (blocks i) refl (blocked d (i + 1) (omega arith) (ap blocks next ∙ e))
    where
      go : (r : Bool) → blocks i ≡ r → commutes_from z ws s b end axis (i + 1) ≡ false → commutes_from z ws s b end axis i ≡ false
      go true t rest = commutes_not z ws s b end axis {i = i} (omega arith) refl refl t
      go false f rest = commutes_more z ws s b end axis {i = i} (omega arith) refl refl f ∙ rest

  -- none from place i on does
  passed : (d i : ℕ) → end - i ≡ d → ((k : ℕ) → i ≤ k → k < end → blocks k ≡ false) → commutes_from z ws s b end axis i ≡ true
  passed zero i h f = commutes_end z ws s b end axis i (omega arith)
  passed (suc d) i h f =
      commutes_more z ws s b end axis {i = i} (omega arith) refl refl (f i (omega arith) (omega arith))
      ∙ passed d (i + 1) (omega arith) (λ k m n. f k (omega arith) n)

module _ {z : Sizes} {ws s : List ℕ} {b from end axis : ℕ} where
  -- the rotation at a place does
  pub blocking_at : {at other : ℕ} {r : Bool} → from ≤ at → at < end → other ≡ (tagged_at s z.u b at).axis
      → r ≡ anticommute z.l (stored_axes z ws) other axis → r ≡ true → Blocking z ws s b from end axis at
  blocking_at {at} {other} low high e f t =
      let place : from + (at - from) ≡ at = omega arith in
      record {
        high = omega arith;
        none = λ h. absurd (omega arith);
        some = λ h. (
          low,
          blocked z ws s b end axis (at - from) from (omega arith) (ap (blocks z ws s b end axis) place
              ∙ ap (λ (a : ℕ). anticommute z.l (stored_axes z ws) a axis) (sym e) ∙ sym f ∙ t),
        );
      }

  -- none does
  pub blocking_none : ((k : ℕ) → from ≤ k → k < end → blocks z ws s b end axis k ≡ false) → Blocking z ws s b from end axis end
  blocking_none f = record {
    high = omega arith;
    none = λ _. passed z ws s b end axis (end - from) from refl f;
    some = λ h. absurd (omega arith);
  }

  -- the first that does, or none
  pub blocking_first : (o : Option ℕ) → MatchOption o ((k : ℕ) → from ≤ k → k < end → blocks z ws s b end axis k ≡ false)
      (λ i. (from ≤ i) × (i < end) × (blocks z ws s b end axis i ≡ true)
      × ((k : ℕ) → from ≤ k → k < i → blocks z ws s b end axis k ≡ false))
      → Blocking z ws s b from end axis (unwrap_or o end)
  blocking_first None f = blocking_none f
  blocking_first (Some i) f = blocking_at f.0 f.1 refl refl f.2
