-- 01, "words.rs" and "optimize.rs": rotations and barriers during a rewriting, their T-count, and segments. Assumes nothing.
use Rattle.std.specs.Prelude.{Bool, true, false, not, ◌&&◌, List, [], ◌∷◌, ◌++◌, map, ℕ, ◌+◌, ◌-◌, ◌%◌, eqb}
use Rattle.model.specs.Lists.{when◌then◌else◌, keep, sum_of, is_even}

-- a rotation: an axis by its id and an angle, 0 to 7 eighths
pub record Rot : Type 0 where
  pub axis : ℕ
  pub angle : ℕ

abbrev pub rot : ℕ → ℕ → Rot
rot a k = record { axis = a; angle = k }

-- "Measurements and conditional rotations are barriers": the operation's index, its axis by id, its sign (0 or 2 quarter turns)
pub data Item : Type 0 where
  rotation : Rot → Item
  barrier : ℕ → ℕ → ℕ → Item

-- a sign taken into the angle: angle k about -P is angle -k about P
unfoldable pub with_sign : ℕ → ℕ → ℕ
with_sign sign k = when eqb sign 0 then k else (8 - k) % 8

-- even, and there to be absorbed
abbrev pub is_clifford : ℕ → Bool
is_clifford k = is_even k && not (eqb k 0)

abbrev pub is_nonzero : Rot → Bool
is_nonzero r = not (eqb r.angle 0)

abbrev pub angle_of : Item → ℕ
angle_of (rotation r) = r.angle
angle_of (barrier o a s) = 0

abbrev pub is_rotation : Item → Bool
is_rotation (rotation r) = true
is_rotation (barrier o a s) = false

abbrev pub is_even_rotation : Item → Bool
is_even_rotation (rotation r) = is_even r.angle
is_even_rotation (barrier o a s) = false

-- "T-count counts odd rotations": here the plain ones
unfoldable pub t_count : List Item → ℕ
t_count = sum_of (λ (i : Item). angle_of i % 2)

unfoldable pub t_count_rots : List Rot → ℕ
t_count_rots = sum_of (λ (r : Rot). r.angle % 2)

-- "Zeros are removed"
abbrev pub stays : Item → Bool
stays (rotation r) = is_nonzero r
stays (barrier o a s) = true

unfoldable pub drop_zeros : List Item → List Item
drop_zeros = keep stays

unfoldable pub drop_zero_rots : List Rot → List Rot
drop_zero_rots = keep is_nonzero

-- ---- `rewrite_segments`: each run of rotations between barriers is rewritten by itself

-- a segment rewritten, and how many changes were made in it
pub record Segment : Type 0 where
  pub rots : List Rot
  pub changes : ℕ

pub record Rewritten : Type 0 where
  pub items : List Item
  pub changes : ℕ

unfoldable pub end_segment : (List Rot → Segment) → List Item → List Rot → List Item
end_segment f done segment = done ++ map rotation (f segment).rots

unfoldable pub rewrite_from : (List Rot → Segment) → List Item → List Rot → ℕ → List Item → Rewritten
rewrite_from f done segment c [] = record { items = end_segment f done segment; changes = c + (f segment).changes }
rewrite_from f done segment c (rotation r ∷ rest) = rewrite_from f done (segment ++ (r ∷ [])) c rest
rewrite_from f done segment c (barrier o a s ∷ rest) =
    rewrite_from f (end_segment f done segment ++ (barrier o a s ∷ [])) [] (c + (f segment).changes) rest

unfoldable pub rewrite_segments : (List Rot → Segment) → List Item → Rewritten
rewrite_segments f items = rewrite_from f [] [] 0 items
