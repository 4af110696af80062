-- The loop's invariant: the digits behind byte i stand, and with what is left in front of it they give the whole. Assumes nothing.
use mathlib.Core.Path.{◌≡◌, sym, ap, ◌∙◌}
use Prim.Native.Nat.{ℕ}
use lib.ListN.{length-set, drop}
use Rattle.listing_print.specs.Columns.{digits_first, digits_more, digits_last, digits_end}
use native.Mathlib.Omega.{arith}
use Rattle.listing_print.proofs.column.digits.Goals as goal

pub loop-i-init : goal.loop-i-init
loop-i-init c = (omega arith, omega arith, digits_first _ _ (omega arith))

pub shape_of-d-then-left-eq0 : goal.shape_of-d-then-left-eq0
shape_of-d-then-left-eq0 c = simp length-set (omega arith)

pub returns-then-left-eq0 : goal.returns-then-left-eq0
returns-then-left-eq0 c = record {
  from = omega arith;
  long = simp length-set c.loop-i.invariant.1;
  digits = digits_last _ _ _ (omega arith) (omega arith) c.digit.ensures c.loop-i.invariant.2 c.if-left-eq0.true;
}

pub loop-i-preserved : goal.loop-i-preserved
loop-i-preserved c = (
  omega arith,
  simp length-set c.loop-i.invariant.1,
  digits_more _ _ _ (omega arith) (omega arith) c.digit.ensures c.loop-i.invariant.2 c.if-left-eq0.false,
)

pub returns : goal.returns
returns c =
    let i = c.loop-i.invariant in
    let front : c.loop-i.i ≡ 0 = omega arith in
    record {
      from = omega arith;
      long = i.1;
      digits = ap (λ (k : ℕ). drop k c.loop-i.d) (sym front) ∙ digits_end _ _ _ (omega arith) i.2;
    }
