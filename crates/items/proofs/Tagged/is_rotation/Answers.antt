-- A rotation has tag 0. Assumes nothing.
use mathlib.Core.Path.{refl}
use Rattle.items.specs.View.{rotation_test}
use Rattle.items.proofs.Tagged.is_rotation.Goals as goal

pub returns : goal.returns
returns c = rotation_test _ _ refl
