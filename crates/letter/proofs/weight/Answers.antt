-- The loop's invariant: n is the count over the first j words of each plane. Assumes nothing.
use mathlib.Core.Path.{◌≡◌, refl}
use Prim.Native.Nat.{◌+◌}
use lib.Bits.{or_lt}
use Rattle.bits.specs.Sum.{sum_to}
use Rattle.pauli.specs.Letter.{weight}
use Rattle.pauli.specs.LetterLaws.{weight_more}
use native.Mathlib.Omega.{arith}
use Rattle.letter.proofs.weight.Goals as goal

pub loop-j-init : goal.loop-j-init
unfolding sum_to
loop-j-init c = (omega arith, omega arith, refl)

pub loop-j-preserved : goal.loop-j-preserved
loop-j-preserved c =
    let a = c.args in
    let fits = c.type_inv.w in
    let more = weight_more a.l a.w.now c.loop-j.j (or_lt 64 _ _ (fits c.loop-j.j).fits (fits (a.l + c.loop-j.j)).fits) in
    (omega arith, omega arith, omega arith)

pub returns : goal.returns
unfolding weight
returns c = let e : c.loop-j.j ≡ c.args.l = omega arith in rw (c.loop-j.invariant.2, e)
