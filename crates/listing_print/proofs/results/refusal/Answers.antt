-- A line of nine fields. Assumes nothing.
use mathlib.Core.Path.{refl}
use Rattle.listing_print.specs.Printed.{printed_as}
use Rattle.listing_print.specs.Texts.{nine_room}
use Rattle.listing_print.specs.Results.{refusal_text}
use native.Mathlib.Omega.{arith}
use Rattle.listing_print.proofs.results.refusal.Goals as goal

pub line-requires : goal.line-requires
line-requires c = nine_room _ refl (omega arith)

pub returns : goal.returns
returns c = printed_as (refusal_text _ c.number_of-n.ensures) c.line.ensures
