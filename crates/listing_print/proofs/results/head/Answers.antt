-- A line of nine fields. Assumes nothing.
use mathlib.Core.Path.{refl}
use Rattle.listing_print.specs.Texts.{nine_room}
use native.Mathlib.Omega.{arith}
use Rattle.listing_print.proofs.results.head.Goals as goal

pub line-requires : goal.line-requires
line-requires c = nine_room _ refl (omega arith)
