-- Items i and later are still to be read, by the present rules. Assumes nothing.
use Rattle.stream_items.specs.Loop.{reading_first, reading_entry, reading_turn, reading_left, reading_limit, reading_next}
use Rattle.stream_items.specs.Loop.{reading_all, reading_end, reading_ended}
use mathlib.Core.Path.{refl, sym, ◌∙◌}
use Rattle.stream_items.specs.Behind.{state_begun, state_kept, rules_begun, rules_kept}
use Rattle.stream_states.specs.States.{left_then}
use native.Mathlib.Omega.{arith}
use Rattle.steps.specs.State.{is_limit}
use Rattle.stream_items.proofs.stream_items.Goals.{then-begins, else-begins}
use Rattle.stream_items.proofs.stream_items.Goals as goal

pub loop-i-init : goal.loop-i-init
loop-i-init c = reading_first c.requires

pub item_at-x-requires : goal.item_at-x-requires
item_at-x-requires c = reading_entry c.loop-i.invariant c.loop-i-test.true c.requires

pub stream_item-requires : goal.stream_item-requires
stream_item-requires c = reading_turn c.loop-i.invariant c.loop-i-test.true c.item_at-x.ensures c.requires

pub shape_of-words-in_err-st : goal.shape_of-words-in_err-st
shape_of-words-in_err-st c = (reading_left c.loop-i.invariant c.loop-i-test.true c.item_at-x.ensures c.stream_item.ensures).words.long

pub shape_of-numbers-in_err-st : goal.shape_of-numbers-in_err-st
shape_of-numbers-in_err-st c = (reading_left c.loop-i.invariant c.loop-i-test.true c.item_at-x.ensures c.stream_item.ensures).numbers.long

pub returns-in_err-st : goal.returns-in_err-st
returns-in_err-st c = rw (is_limit _ c.from_residual.ensures.0) (
  reading_left c.loop-i.invariant c.loop-i-test.true c.item_at-x.ensures c.stream_item.ensures,
  reading_limit
      c.loop-i.invariant c.loop-i-test.true c.item_at-x.ensures c.stream_item.ensures c.in_err-st.was,
)

pub overflow_step-i : goal.overflow_step-i
overflow_step-i c = omega (arith, c.loop-i-test.true, c.ranges)

pub loop-i-smaller : goal.loop-i-smaller
loop-i-smaller c = omega (arith, c.loop-i-test.true)

pub loop-i-preserved : goal.loop-i-preserved
loop-i-preserved c =
    let next = reading_next c.loop-i.invariant c.loop-i-test.true c.item_at-x.ensures c.stream_item.ensures c.requires _ c.in_ok-st.was in
    elim c.if-begins.branch [
      | then-begins w ↦
          let begin = sym c.begins.ensures ∙ w.if-begins.true in
          rw (w.st-is ∙ state_begun c.in_ok-st.st begin refl, w.present-is ∙ rules_begun c.loop-i.present begin) next
      | else-begins w ↦
          let begin = sym c.begins.ensures ∙ w.if-begins.false in
          rw (w.st-is ∙ state_kept c.in_ok-st.st begin, w.present-is ∙ rules_kept c.loop-i.present begin) next
    ]

pub absorb_all-requires : goal.absorb_all-requires
absorb_all-requires c = reading_all c.loop-i.invariant c.loop-i-test.false c.requires

pub shape_of-words : goal.shape_of-words
shape_of-words c = (left_then c.loop-i.invariant.left c.absorb_all.ensures.0).words.long

pub shape_of-numbers : goal.shape_of-numbers
shape_of-numbers c = (left_then c.loop-i.invariant.left c.absorb_all.ensures.0).numbers.long

pub returns : goal.returns
returns c = (
  left_then c.loop-i.invariant.left c.absorb_all.ensures.0,
  λ g p h. reading_ended c.loop-i.invariant
      c.loop-i-test.false h (c.absorb_all.ensures.1 _ _ _ (reading_end c.loop-i.invariant c.loop-i-test.false h)),
)
