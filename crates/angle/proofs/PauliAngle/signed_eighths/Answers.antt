-- The table's rule, by one test over its eight entries. Assumes nothing.
use mathlib.Core.List.{List, [], ◌∷◌}
use mathlib.Core.Bool.{Bool}
use Prim.Native.Nat.{ℕ, ◌%◌}
use lib.IntN.{ℤ, pos, negsuc}
use lib.ListN.{get_or}
use mir.Syntax.{w8}
use mir.Val.{to_z, of_z}
use Rattle.angle.specs.Angle.{pick, signed_angle}
use Rattle.store.specs.Table.{at, eq_z, eq_z→eq}
use native.Mathlib.Omega.{arith}
use Rattle.angle.proofs.PauliAngle.signed_eighths.Goals as goal

table : List ℤ
table = pos 0 ∷ pos 1 ∷ pos 2 ∷ pos 3 ∷ pos 4 ∷ negsuc 2 ∷ negsuc 1 ∷ negsuc 0 ∷ []

-- an entry, as the machine holds it, is the signed angle of its place
right : ℕ → ℤ → Bool
unfolding signed_angle pick
right k x = eq_z (to_z w8 (of_z w8 x)) (signed_angle k)

pub returns : goal.returns
unfolding table right signed_angle pick
returns c =
    let k = c.args.self.0 % 8 in
    eq_z→eq (to_z w8 (of_z w8 (get_or table k (pos 0)))) (signed_angle k) (at right (pos 0) table tt k (omega arith))
