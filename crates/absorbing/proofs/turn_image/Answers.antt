-- Three cases: words that commute, a half turn, a quarter turn. Assumes nothing.
use Rattle.product.specs.Product.{told_small}
use Rattle.absorbing.specs.Turning.{turn_word, turn_slot, turned_not, turned_half, turned_quarter, turn_stored}
use native.Mathlib.Omega.{arith}
use Rattle.absorbing.proofs.turn_image.Goals as goal

pub odd_phase_at-requires : goal.odd_phase_at-requires
odd_phase_at-requires c =
    let pre = c.requires in
    (turn_word pre, turn_slot pre c.slot_at-at.ensures)

pub returns-in_default : goal.returns-in_default
returns-in_default c = turned_not c.requires c.slot_at-at.ensures c.odd_phase_at.ensures c.in_default.is

pub returns-then-k-eq4 : goal.returns-then-k-eq4
returns-then-k-eq4 c =
    turned_half c.requires c.slot_at-at.ensures c.odd_phase_at.ensures c.in-Some.is c.if-k-eq4.true
    c.add_phase.ensures

pub product_word_in-requires : goal.product_word_in-requires
product_word_in-requires c = turn_stored c.requires c.slot_at-at.ensures

pub add_phase-requires-2 : goal.add_phase-requires-2
add_phase-requires-2 c =
    let pre = c.requires in (
      pre.there.numbers_long,
      pre.there.entry,
      omega (arith, told_small _ _ _ c.odd_phase_at.ensures c.in-Some.is, pre.quarters.small),
    )

pub returns : goal.returns
returns c =
    turned_quarter c.requires c.slot_at-at.ensures c.odd_phase_at.ensures c.in-Some.is c.if-k-eq4.false
    c.product_word_in.ensures c.add_phase-2.ensures
