-- A word that F leaves has its id; else its image is worked out and stored. Assumes nothing.
use mathlib.Core.Path.{refl}
use Rattle.steps.specs.State.{is_limit, step_with}
use Rattle.carrying.specs.Carrying.{carry_at, carry_words, carry_numbers, left_fixed, fixed_to, intern_there, limit_left, carry_limit}
use Rattle.carrying.specs.Carrying.{carry_left, carry_to}
use native.Mathlib.Omega.{arith}
use Rattle.carrying.proofs.carry_held.Goals as goal

pub axis_at-at-requires : goal.axis_at-at-requires
axis_at-at-requires c = omega (arith, carry_words c.requires.it, carry_numbers c.requires.it)

pub fixes-requires : goal.fixes-requires
fixes-requires c = (
  omega (arith, c.axis_at-at.ensures, carry_words c.requires.it),
  omega
      (arith, c.mask_at-mask.ensures, carry_words c.requires.it),
)

pub returns-then-fixes : goal.returns-then-fixes
unfolding step_with
returns-then-fixes c = (
  left_fixed _ _ _,
  λ t h. fixed_to h c.axis_at-at.ensures c.mask_at-mask.ensures (c.fixes.ensures c.if-fixes.true) refl,
)

pub carry_word-turns-requires : goal.carry_word-turns-requires
carry_word-turns-requires c = record { state = c.requires.state; it = carry_at c.requires.it }

pub intern-requires : goal.intern-requires
intern-requires c =
    intern_there c.requires.it (c.carry_word-turns.ensures _ (carry_at c.requires.it)) c.scratch_at-scratch.ensures
    c.sizes_of-z.ensures (omega (arith, c.requires.it.axis.at.holds.room))

pub returns-in_err-a : goal.returns-in_err-a
unfolding step_with
returns-in_err-a c = (
  limit_left c.requires.it (c.carry_word-turns.ensures _ (carry_at c.requires.it)) c.scratch_at-scratch.ensures
      c.sizes_of-z.ensures c.intern.ensures c.in_err-a.was,
  rw (is_limit _ c.from_residual.ensures.0) (λ t h. carry_limit h
      (c.carry_word-turns.ensures t (carry_at h)) c.scratch_at-scratch.ensures c.sizes_of-z.ensures
      c.intern.ensures c.in_err-a.was),
)

pub shape_of-words : goal.shape_of-words
shape_of-words c = (carry_left c.requires.it (c.carry_word-turns.ensures _ (carry_at c.requires.it)) c.scratch_at-scratch.ensures
    c.sizes_of-z.ensures c.intern.ensures c.in_ok-a.was).words.long

pub returns : goal.returns
unfolding step_with
returns c = (
  carry_left c.requires.it (c.carry_word-turns.ensures _ (carry_at c.requires.it)) c.scratch_at-scratch.ensures
      c.sizes_of-z.ensures c.intern.ensures c.in_ok-a.was,
  λ t h. carry_to h
      (c.carry_word-turns.ensures t (carry_at h)) c.scratch_at-scratch.ensures c.sizes_of-z.ensures
      c.intern.ensures c.in_ok-a.was refl,
)
