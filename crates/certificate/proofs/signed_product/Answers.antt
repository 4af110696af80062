-- The cases of the phase; the product of two angles is at most 16. Assumes nothing.
use mathlib.Core.Path.{◌≡◌, ap, ap₂, ◌∙◌}
use Prim.Native.Nat.{ℕ, ◌≤◌}
use native.Mathlib.Omega.{arith}
use lib.IntN.{ℤ, pos, neg_ℤ, nat_abs, ◌-ℤ◌, ◌*ℤ◌}
use mir.Syntax.{w64}
use mir.Val.{to_z, of_z}
use Rattle.angle.specs.Angle.{signed_angle}
use Rattle.certificate.specs.Sums.{abs_neg, signed_small, angles_small}
use Rattle.certificate.specs.Terms.{product_one, product_three, product_none}
use Rattle.certificate.proofs.SignedSum.{fits_as, read_as, none_minus}
use Rattle.certificate.proofs.signed_product.Goals as goal

-- what the code multiplies
times : (j k : ℕ) {x y : ℤ} → x ≡ signed_angle j → y ≡ signed_angle k
    → to_z w64 (of_z w64 x) *ℤ to_z w64 (of_z w64 y) ≡ signed_angle j *ℤ signed_angle k
times j k e d = ap₂ ◌*ℤ◌ (read_as 4 (omega arith) e (signed_small j)) (read_as 4 (omega arith) d (signed_small k))

-- its opposite
opposite : (j k : ℕ) {x y : ℤ} → x ≡ signed_angle j → y ≡ signed_angle k
    → pos 0 -ℤ to_z w64 (of_z w64 (to_z w64 (of_z w64 x) *ℤ to_z w64 (of_z w64 y))) ≡ neg_ℤ (signed_angle j *ℤ signed_angle k)
opposite j k e d =
    ap (λ (z : ℤ). pos 0 -ℤ z) (read_as 16 (omega arith) (times j k e d) (angles_small j k)) ∙ none_minus (signed_angle j *ℤ signed_angle k)

opposite-small : (j k : ℕ) → nat_abs (neg_ℤ (signed_angle j *ℤ signed_angle k)) ≤ 16
opposite-small j k = rw abs_neg (angles_small j k)

pub returns-in_default : goal.returns-in_default
returns-in_default c = product_none _ _ c.in_default.is

pub overflow_mul-v : goal.overflow_mul-v
overflow_mul-v c = fits_as 16 (omega arith) (times _ _ c.signed.ensures c.signed-2.ensures) (angles_small _ _)

pub returns-then-e-eq1 : goal.returns-then-e-eq1
returns-then-e-eq1 c =
    read_as 16 (omega arith) (times _ _ c.signed.ensures c.signed-2.ensures) (angles_small _ _)
    ∙ product_one _ _ c.in-Some.is c.if-e-eq1.true

pub overflow_sub-result : goal.overflow_sub-result
overflow_sub-result c = fits_as 16 (omega arith) (opposite _ _ c.signed.ensures c.signed-2.ensures) (opposite-small _ _)

pub returns-else-e-eq1 : goal.returns-else-e-eq1
returns-else-e-eq1 c =
    read_as 16 (omega arith) (opposite _ _ c.signed.ensures c.signed-2.ensures) (opposite-small _ _)
    ∙ product_three _ _ c.in-Some.is c.if-e-eq1.false
