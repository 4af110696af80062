-- The library's remainder is the angle's. Assumes nothing.
use Rattle.std.proofs.Common.{◌≡◌, refl, ap, ◌∙◌, arith, ℤ, pos, negsuc, w32}
use Rattle.std.specs.Int.{int_rem_euclid}
use Rattle.std.proofs.lemmas.Int.{to_z_pos}
use Rattle.std.proofs.Math.Facts.{to_z-of_z}
use Rattle.angle.specs.Angle.{eighths_of}
use Rattle.angle.specs.AngleLaws.{eighths_lt}
use Rattle.angle.proofs.PauliAngle.new.Goals as goal

remainder : (k : ℤ) → int_rem_euclid k (pos 8) ≡ pos (eighths_of k)
unfolding eighths_of
remainder (pos n) = refl
remainder (negsuc n) = refl

pub returns : goal.returns
returns c =
    let k = c.args.eighths in
    let e = c.rem_euclid.ensures.value ∙ ap (λ (z : ℤ). int_rem_euclid z (pos 8)) (to_z-of_z c.ranges.eighths) ∙ remainder k in
    rw (e, to_z_pos w32 (eighths_of k) (omega (arith, eighths_lt k)))
