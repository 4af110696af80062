-- The loop's invariant: what is left from byte i on, with the number so far, gives the whole; i digits are below 10 ^ i. Assumes nothing.
use Rattle.std.proofs.Common.{arith, sym, ap, ◌∙◌, ◌+◌, ◌*◌, ℕ}
use Rattle.model.specs.Listing.{digits_from}
use Rattle.listing_fields.specs.Field.{past, past_none, digits_more, digits_bad, digits_end, digits_below}
use Rattle.listing_fields.proofs.field.digits.Goals as goal

pub loop-b-init : goal.loop-b-init
loop-b-init c = (ap (digits_from 0) (past_none _), omega arith)

pub returns-then-not-is_ascii_digit : goal.returns-then-not-is_ascii_digit
returns-then-not-is_ascii_digit c =
    sym (c.loop-b.invariant.0 ∙ digits_bad _ _ _ c.loop-b-test.true (sym c.is_ascii_digit.ensures.value ∙ c.if-not-is_ascii_digit.true))

pub loop-b-preserved : goal.loop-b-preserved
loop-b-preserved c =
    let is = sym c.is_ascii_digit.ensures.value ∙ c.if-not-is_ascii_digit.false in
    let digit = λ (d : ℕ). c.loop-b.v * 10 + d in (
      c.loop-b.invariant.0 ∙ digits_more _ _ _ c.loop-b-test.true is
          ∙ ap (λ d. digits_from (digit d) (past c.args.f.now (c.loop-b.b-index + 1))) (sym c.from.ensures),
      rw c.from.ensures (digits_below c.loop-b.b-index c.loop-b.v _ c.loop-b.invariant.1 is),
    )

pub returns : goal.returns
returns c = sym (c.loop-b.invariant.0 ∙ digits_end _ _ _ c.loop-b-test.false)
