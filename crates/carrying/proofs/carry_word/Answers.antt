-- The scratch word begins as the identity. Assumes nothing.
use Rattle.carrying.specs.Letters.{carry_granted, zeros_some, zeros_carry, zeros_carried}
use Prim.Native.Nat.{◌*◌}
use Rattle.store.specs.Part.{zeros_lent}
use native.Mathlib.Omega.{arith}
use Rattle.carrying.proofs.carry_word.Goals as goal

pub carry_letters-requires : goal.carry_letters-requires
carry_letters-requires c =
    zeros_some c.requires c.scratch_at-scratch.ensures
    (zeros_lent _ _ _ _ (omega (arith, c.scratch_at-scratch.ensures, (carry_granted c.requires.it).words_long))
    (c.fill.ensures.after (λ y h. h)))

pub returns : goal.returns
returns c =
    let zeros
    = zeros_lent c.args.words.now c.scratch_at-scratch.result (2 * c.args.shape.l)
    c.fill.new.self (omega (arith, c.scratch_at-scratch.ensures, (carry_granted c.requires.it).words_long))
    (c.fill.ensures.after (λ y h. h)) in
    λ t h. zeros_carried h c.scratch_at-scratch.ensures zeros
    (c.carry_letters.ensures t (zeros_carry h c.scratch_at-scratch.ensures zeros))
