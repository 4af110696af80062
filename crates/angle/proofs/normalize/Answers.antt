-- A remainder by 8 is its own remainder. Assumes nothing.
use mathlib.Core.Path.{◌≡◌, ◌∙◌, ap}
use Prim.Native.Nat.{ℕ, ◌%◌}
use lib.IntN.{ℤ}
use mir.Syntax.{w8}
use mir.Val.{to_z, of_z}
use mir.Facts.{to_z-of_z}
use Rattle.angle.specs.Angle.{signed_angle, eighths_of}
use Rattle.angle.specs.AngleLaws.{eighths_rem}
use borrow.Author.Rules.{rules}
use Rattle.angle.proofs.normalize.Goals as goal

pub returns : goal.returns
returns c =
    let k = c.args.k in
    let e : to_z w8 (of_z w8 c.signed_eighths.result) ≡ c.signed_eighths.result = search rules in
    e ∙ c.signed_eighths.ensures ∙ ap (λ (n : ℕ). signed_angle (n % 8)) c.new.ensures
    ∙ ap (λ (z : ℤ). signed_angle (eighths_of z % 8)) (to_z-of_z c.ranges.k) ∙ ap signed_angle (eighths_rem k)
