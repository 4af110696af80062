-- 01, "litinski.rs": T-depth. Assumes nothing.
use Rattle.std.specs.Prelude.{List, [], ◌∷◌, ◌++◌, ℕ, ◌+◌}
use Rattle.model.specs.Lists.{when◌then◌else◌, highest_of, is_odd}
use Rattle.model.specs.Words.{anticommute}
use Rattle.model.specs.Items.{Rot, Item, rotation, barrier}

pub record Level : Type 0 where
  pub rot : Rot
  pub level : ℕ

-- "a rotation's level is the highest level of earlier anticommuting rotations of its segment, plus 1 if odd"
unfoldable pub level_of : ℕ → List (List ℕ) → List Level → Rot → ℕ
level_of l axes earlier r =
    highest_of (λ (e : Level). (when anticommute l axes e.rot.axis r.axis then e.level else 0)) earlier + (when is_odd r.angle then 1 else 0)

-- "depth is the highest level of an odd rotation, 0 if there is none"
unfoldable pub segment_depth : List Level → ℕ
segment_depth = highest_of (λ (e : Level). (when is_odd e.rot.angle then e.level else 0))

-- "summed over segments. Conditional rotations add nothing."
unfoldable pub depth_from : ℕ → List (List ℕ) → ℕ → List Level → List Item → ℕ
depth_from l axes depth segment [] = depth + segment_depth segment
depth_from l axes depth segment (rotation r ∷ rest) =
    depth_from l axes depth (segment ++ (record { rot = r; level = level_of l axes segment r } ∷ [])) rest
depth_from l axes depth segment (barrier o a s ∷ rest) = depth_from l axes (depth + segment_depth segment) [] rest

unfoldable pub t_depth : ℕ → List (List ℕ) → List Item → ℕ
t_depth l axes items = depth_from l axes 0 [] items
