-- A rotation laid into a layer: what it keeps. Assumes nothing.
use Rattle.std.specs.Prelude.{List, [], ◌∷◌, ◌++◌, ℕ, eqb}
use Rattle.std.proofs.Common.{eqb-true}
use Rattle.model.specs.Items.{Rot}
use Rattle.model.specs.Layering.{merge_into}
use Rattle.theory.specs.Cases.{by_if, on_if}
use Rattle.theory.specs.Every.{Every}
use Rattle.effect.specs.Words.{Setting}
use Rattle.items_effect.specs.Rotations.{Commutes, ≋-refl, ≋-cons, merges}
use Rattle.items_effect.specs.Rotations as Rotations

-- what holds of every axis of a layer, and of the axis laid into it, holds after
pub merge_into_every : (P : ℕ → Type 0) (layer : List Rot) (r : Rot) → Every (λ (x : Rot). P x.axis) layer → P r.axis
    → Every (λ (x : Rot). P x.axis) (merge_into layer r)
unfolding merge_into
merge_into_every P [] r h k = (k, tt)
merge_into_every P (x ∷ layer) r h k =
    by_if (Every (λ (y : Rot). P y.axis)) _ _ (x ∷ merge_into layer r) (h.0, h.1) (h.0, merge_into_every P layer r h.1 k)

-- a rotation that commutes with all of a layer is laid into it
pub merge_into_effect : (H : Setting) (word : ℕ → H.words.W) (layer : List Rot) (r : Rot) → Every (Commutes H word r) layer
    → Rotations.◌≋◌ H word (merge_into layer r) (layer ++ (r ∷ []))
unfolding merge_into
merge_into_effect H word [] r h = ≋-refl H word (r ∷ [])
merge_into_effect H word (x ∷ layer) r h =
    on_if (λ (g : List Rot). Rotations.◌≋◌ H word g (x ∷ (layer ++ (r ∷ [])))) (eqb x.axis r.axis) _ _
    (λ e. merges H word x r layer (eqb-true x.axis r.axis e) h.1)
    (λ e. ≋-cons H word x (merge_into layer r) (layer ++ (r ∷ [])) (merge_into_effect H word layer r h.1))
