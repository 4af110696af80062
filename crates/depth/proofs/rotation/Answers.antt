-- A level of 0 is not entered; another is, at the level that is asked plus 1 if odd. Assumes nothing.
use mathlib.Core.Path.{refl}
use Rattle.depth.specs.Turns.{own_axis, turn_level, level_high, rotation_low, rotation_pre, rotation_put}
use native.Mathlib.Omega.{arith}
use Rattle.depth.proofs.rotation.Goals as goal

pub signature_of-sig-requires : goal.signature_of-sig-requires
signature_of-sig-requires c = own_axis c.requires

pub level-requires : goal.level-requires
level-requires c = turn_level c.requires c.signature_of-sig.ensures

pub overflow_add-v : goal.overflow_add-v
overflow_add-v c = omega (arith, level_high c.requires c.level.ensures refl, c.requires.turn.here, c.requires.turn.stored.fit.small)

pub returns-then-v-st : goal.returns-then-v-st
returns-then-v-st c = rotation_low c.requires c.level.ensures refl c.if-v-st.true

pub enter-requires : goal.enter-requires
enter-requires c = rotation_pre c.requires c.level.ensures refl c.if-v-st.false

pub returns : goal.returns
returns c =
    rotation_put c.requires c.level.ensures refl c.signature_of-sig.ensures c.if-v-st.false c.enter.ensures
    c.max.ensures
