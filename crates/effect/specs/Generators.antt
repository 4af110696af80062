-- Words that commute. Assumes nothing.
use Rattle.std.specs.Prelude.{◌≡◌, false}
use Rattle.effect.specs.Phase.{odd}
use Rattle.effect.specs.Words.{Setting}

-- words that commute
abbrev pub Commute : (H : Setting) → H.words.W → H.words.W → Type 0
Commute H P Q = odd (H.words.ph P Q) ≡ false
