-- Laws of angles, phases and the signed numbers that stand for angles. Assumes nothing.
use Rattle.std.specs.Prelude.{◌≡◌, ◌&&◌, ℕ, ◌%◌, ◌<◌, T, eqb, ℤ, pos, negsuc}
use Rattle.std.proofs.Common.{arith, eqb→eq}
use Rattle.std.specs.Int.Signed.{le_z}
use Rattle.store.specs.Table.{below}
use Rattle.angle.specs.Angle.{eighths_of, pick, signed_angle}

pub eighths_lt : (k : ℤ) → eighths_of k < 8
unfolding eighths_of
eighths_lt (pos n) = omega arith
eighths_lt (negsuc n) = omega arith

pub eighths_rem : (k : ℤ) → eighths_of k % 8 ≡ eighths_of k
eighths_rem k = omega (arith, eighths_lt k)

-- an angle's signed number has the angle for its remainder
pub signed_eighths : (k : ℕ) → k < 8 → eighths_of (signed_angle k) ≡ k
unfolding signed_angle eighths_of pick
signed_eighths k h = eqb→eq (eighths_of (signed_angle k)) k (below (λ n. eqb (eighths_of (signed_angle n)) n) 8 tt k h)

-- and lies from -3 to 4
pub signed_range : (k : ℕ) → k < 8 → T (le_z (negsuc 2) (signed_angle k) && le_z (signed_angle k) (pos 4))
unfolding signed_angle pick
signed_range k h = below (λ n. le_z (negsuc 2) (signed_angle n) && le_z (signed_angle n) (pos 4)) 8 tt k h
